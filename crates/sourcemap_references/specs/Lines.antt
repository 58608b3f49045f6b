-- The reference of a text, found line by line.
use Rattle.std.specs.Prelude.{◌≡◌, ℕ, ◌+◌, ◌<◌, ◌≤◌, List, [], ◌∷◌, Option, None, Some, IfSome, Bool, true, false, drop}
use Rattle.std.specs.Prelude.{length, nat_lt, slice_index, slice_range, take, if◌then◌else◌}
use Rattle.std.specs.Str.{IsCharBoundary, IsUtf8, is_utf8}
use Rattle.sourcemap_references.specs.Reference.{Reference, first_on, first_reference, line_reference, or_later}
use Rattle.sourcemap_references.specs.Reference.{reference_on, text_lines}
use Rattle.sourcemap_references.specs.declared.lines.Line.{Line}
use Rattle.sourcemap_references.specs.declared.lines.Lines.{Lines}
use Rattle.sourcemap_references.specs.declared.lines.Lines.TheVariants.{Marked, Unmarked}

-- the lines after the newline at index `end`; empty if the text ends at this index
abbrev pub lines_after : List ℕ → ℕ → List (List ℕ)
lines_after text end = if nat_lt end (length text) then text_lines (drop (end + 1) text) else []

-- `end` is the end of the line that starts at index `start`: the index of the first newline at or after `start`, or the
-- length of the text if there is no such newline
pub record EndsAt (text : List ℕ) (start end : ℕ) : Type 0 where
  pub order : start ≤ end
  pub within : end ≤ length text
  pub newline : end < length text → slice_index text end ≡ 10
  pub lines : text_lines (drop start text) ≡ slice_range text start end ∷ lines_after text end

-- `due` if `bytes` is UTF-8, otherwise `None`
abbrev pub if_text : List ℕ → Option (Option Reference) → Option (Option Reference)
if_text bytes due = if is_utf8 bytes then due else None

-- what `first_lines` ensures for `line`, the first line with a mark. `line` ends at a char boundary. If the text up to
-- `line.end` is UTF-8, `line` also starts at a char boundary, and `first_reference` is the reference on `line`.
-- Otherwise `first_reference` is `None`
pub record IsFirstMarked (text : List ℕ) (line : Line) : Type 0 where
  pub first : first_reference text
      ≡ if_text (take line.end text) (Some (reference_on (drop line.start (take line.end text))))
  pub ends : IsCharBoundary text line.end
  pub starts : IsUtf8 (take line.end text) → IsCharBoundary (take line.end text) line.start

-- what `first_lines` ensures for `end` if no line up to `end` has a mark. If the text up to `end` is UTF-8,
-- `first_reference` is `first_on` of the lines after `end`. Otherwise `first_reference` is `None`
pub record AreUnmarked (text : List ℕ) (end : ℕ) : Type 0 where
  pub within : end ≤ length text
  pub left : first_reference text ≡ if_text (take end text) (first_on (lines_after text end))

-- the property holds of the first line with a mark, if a line that was read has a mark
abbrev pub IfMarked : Lines → (Line → Type 0) → Type 0
IfMarked (Marked line) Holds = Holds line
IfMarked (Unmarked _) Holds = Unit {0}

-- the property holds of the end of the last line that was read, if no line that was read has a mark
abbrev pub IfUnmarked : Lines → (ℕ → Type 0) → Type 0
IfUnmarked (Marked _) Holds = Unit {0}
IfUnmarked (Unmarked end) Holds = Holds end

-- `text` and `rest` have the same `first_reference`, and `rest` is shorter than `text`. If there is no `rest`, `text`
-- is UTF-8 and has no reference
abbrev pub LeavesOnly : List ℕ → Option (List ℕ) → Type 0
LeavesOnly text (Some rest) = (first_reference text ≡ first_reference rest) × (length rest < length text)
LeavesOnly text None = first_reference text ≡ Some None

-- the result of reading a line. `known` has the bytes of the reader before the read. If `known` is `None`, nothing is
-- required. If the `Bool` is true, a line was read, and `left` has the bytes of the reader after the read. If this line
-- has a reference or is not UTF-8, `first_reference` of `known` is `line_reference` of this line. Otherwise `known` and
-- `left` have the same `first_reference`. If the `Bool` is false, no line was left to read, and the bytes in `known`
-- are UTF-8 without a reference
abbrev pub ReadsLine : Option (List ℕ) → Option (List ℕ) → Bool → List ℕ → Type 0
ReadsLine known left false line = IfSome known (λ text. first_reference text ≡ Some None)
ReadsLine known left true line = IfSome known (λ text.
    (rest : List ℕ) × (left ≡ Some rest)
    × (first_reference text ≡ or_later (line_reference line) (first_reference rest)))
