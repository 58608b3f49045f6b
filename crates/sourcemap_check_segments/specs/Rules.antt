-- The rules of ECMA-426 on segments.
use Rattle.std.specs.Prelude.{◌≡◌, ℕ, ◌+◌, ◌&&◌, Bool, not, List, ◌++◌, length, take, slice_get, Some, IsTrue}
use Rattle.std.specs.Prelude.{pos, int_lt, int_le}
use Rattle.sourcemap_check_report.specs.declared.rules.SegmentRule.{SegmentRule}
use Rattle.sourcemap_check_report.specs.declared.rules.SegmentRule.TheVariants.{ForeignByte, CutNumber, FieldCount}
use Rattle.sourcemap_check_report.specs.declared.rules.SegmentRule.TheVariants.{LargeNumber, ColumnBelowZero}
use Rattle.sourcemap_check_report.specs.declared.rules.SegmentRule.TheVariants.{SourceBelowZero, LineBelowZero}
use Rattle.sourcemap_check_report.specs.declared.rules.SegmentRule.TheVariants.{SourceColumnBelowZero, NameBelowZero}
use Rattle.sourcemap_check_report.specs.declared.rules.SegmentRule.TheVariants.{SourcePastList, NamePastList}
use Rattle.sourcemap_check_report.specs.declared.rules.Rule.TheVariants.{Segment}
use Rattle.sourcemap_check_report.specs.declared.report.Finding.{Finding}
use Rattle.sourcemap_check_segments.specs.Segments.{page_of, raws_of, has_foreign, is_cut, is_whole, is_count}
use Rattle.sourcemap_check_segments.specs.Segments.{has_large}
use Rattle.sourcemap_check_segments.specs.Segments.{has_field, sum_at, joined}

-- how many sources and how many names a map has
pub record Counts : Type 0 where
  pub sources : ℕ
  pub names : ℕ

-- a segment breaks a rule. `line` are the segments of its line up to and including it, `text` those of the whole text.
-- The sum of columns begins anew on each line; the other sums run through the text
abbrev pub breaks : Counts → SegmentRule → (text line : List (List ℕ)) → (segment : List ℕ) → Bool
breaks counts ForeignByte text line segment = has_foreign segment
breaks counts CutNumber text line segment = is_cut segment
breaks counts FieldCount text line segment = is_whole segment && not (is_count (length (raws_of segment)))
breaks counts LargeNumber text line segment = is_whole segment && has_large segment
breaks counts ColumnBelowZero text line segment = has_field 0 segment && int_lt (sum_at 0 line) (pos 0)
breaks counts SourceBelowZero text line segment = has_field 1 segment && int_lt (sum_at 1 text) (pos 0)
breaks counts LineBelowZero text line segment = has_field 2 segment && int_lt (sum_at 2 text) (pos 0)
breaks counts SourceColumnBelowZero text line segment = has_field 3 segment && int_lt (sum_at 3 text) (pos 0)
breaks counts NameBelowZero text line segment = has_field 4 segment && int_lt (sum_at 4 text) (pos 0)
breaks counts SourcePastList text line segment = has_field 1 segment && int_le (pos counts.sources) (sum_at 1 text)
breaks counts NamePastList text line segment = has_field 4 segment && int_le (pos counts.names) (sum_at 4 text)

-- the segment at this line and index of the text `mappings` breaks a rule
pub record IsBroken (counts : Counts) (text : List ℕ) (rule : SegmentRule) (n index : ℕ) : Type 0 where
  pub line : List (List ℕ)
  pub segment : List ℕ
  pub line_at : slice_get (page_of text) n ≡ Some line
  pub segment_at : slice_get line index ≡ Some segment
  pub broken : let here = take (index + 1) line in
      IsTrue (breaks counts rule (joined (take n (page_of text)) ++ here) here segment)

-- a finding says that the text of this map breaks a rule on segments
pub record IsBrokenRule (counts : Counts) (map : ℕ) (text : List ℕ) (finding : Finding) : Type 0 where
  pub rule : SegmentRule
  pub rule_is : finding.rule ≡ Segment rule
  pub map_is : finding.map ≡ map
  pub broken : IsBroken counts text rule finding.line finding.index
