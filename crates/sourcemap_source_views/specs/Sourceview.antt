-- Views of source texts: their slices and their equality.
use Rattle.std.specs.Prelude.{ℕ, List, Option, Bool, nat_eq, slice_get}
use Rattle.std.specs.Option.{option_and_then}
use Rattle.std.specs.Cmp.{IsEquivalence}
use Rattle.std.specs.Cmp.Rules.{comparing}
use Rattle.std.specs.Cmp.Lexicographic.{pointwise}
use Rattle.std.proofs.Common.{rules}
use Rattle.sourcemap_source_views.specs.Columns.{slice_of}
use Rattle.sourcemap_source_views.specs.Lines.{line_bodies}

-- the slice of line `line` of a text, from column `col` up to column `col + span`, exclusive. Lines are 0-based and
-- without terminators. Columns are in UTF-16 units, and `column_offset` gives the byte offset of each column. The slice
-- is `None` if the text has no such line, or if the line has fewer than `col + span` UTF-16 units
abbrev pub view_slice : List ℕ → (line col span : ℕ) → Option (List ℕ)
view_slice source line col span = option_and_then (λ body. slice_of body col span) (slice_get (line_bodies source) line)

-- two texts have the same bytes
abbrev pub same_source : List ℕ → List ℕ → Bool
same_source = pointwise nat_eq

pub same_source_equiv : IsEquivalence same_source
same_source_equiv = search (comparing, rules) depth 16
