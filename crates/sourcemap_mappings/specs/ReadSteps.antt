-- The steps of decoding: a part is added to a line, a line to the lines before it.
use Rattle.std.specs.Prelude.{◌≡◌, ℕ, ◌<◌, ◌≤◌, List, [], ◌∷◌, ◌++◌, length, Option, IfSome, IsTrue, false}
use Rattle.std.specs.Option.{option_map_or}
use Rattle.std.specs.List.{AllByRecursion}
use Rattle.sourcemap_tokens.specs.declared.tokens.RawToken.{RawToken}
use Rattle.sourcemap_line_index.specs.LineIndex.{IsLineTable, LineTable}
use Rattle.sourcemap_tokens.specs.Tokens.{AreInOrder, position_cmp, destination}
use Rattle.std.specs.Ordering.{is_lt}
use denote.Ref.{Bor}
use Rattle.sourcemap_mappings.specs.declared.segment.Sums.{Sums}
use Rattle.sourcemap_mappings.specs.declared.segment.PartPosition.{PartPosition}
use Rattle.sourcemap_mappings.specs.Segment.{Counts, Segment, parts_of}
use Rattle.sourcemap_mappings.specs.SegmentSteps.{AreTextSums, AreSums}
use Rattle.sourcemap_mappings.specs.Read.{Line, line_tokens, PartsRead, LineText, LineRead, lines_of}

-- if `sums.rises` is true, the tokens are sorted by generated position, and no token is after the generated position
-- (`line`, `sums.column`). `rises` means that no generated column was less than the column before it on its line
abbrev pub AreInOrderTo : ℕ → Sums → List RawToken → Type 0
AreInOrderTo line sums tokens = IsTrue sums.rises
    → AreInOrder tokens × AllByRecursion (λ t. is_lt (position_cmp (line, sums.column) (destination t)) ≡ false) tokens

-- if `later.rises` is true, then `earlier.rises` is true, and `earlier.column` is at most `later.column`. `rises` means
-- that no generated column was less than the column before it on its line
abbrev pub RiseFrom : (earlier later : Sums) → Type 0
RiseFrom earlier later = IsTrue later.rises → IsTrue earlier.rises × (earlier.column ≤ later.column)

-- tokens were appended, all on this line
abbrev pub AddsOnLine : (line : ℕ) (old new : List RawToken) → Type 0
AddsOnLine line old new = (more : List RawToken) × (new ≡ old ++ more) × AllByRecursion (λ t. t.dst_line ≡ line) more

-- let the tokens from index `first` on be on one line, and the tokens before index `first` on earlier lines. If `old`
-- is the line table of the tokens before index `first`, then `new` is the line table of all tokens
abbrev pub AddsRow : (old new : LineTable) (tokens : List RawToken) (first : ℕ) → Type 0
AddsRow old new tokens first =
    (line : ℕ) (before more : List RawToken) → tokens ≡ before ++ more → first ≡ length before
    → AllByRecursion (λ t. t.dst_line < line) before → AllByRecursion (λ t. t.dst_line ≡ line) more
    → IsLineTable before (length before) old → IsLineTable tokens (length tokens) new

-- the tokens of `parts`, which are successive parts of one line, are appended. The first of these parts is at
-- `position`, after the segments `before` of earlier lines and the segments `here` of the same line. The sums include
-- `before`, `here` and all of the parts
pub record AddsParts (counts : Counts) (position : PartPosition) (bits : List ℕ) (before here : List Segment)
    (parts : List (List ℕ)) (old new : List RawToken) (sums : Sums) : Type 0 where
  pub segments : List Segment
  pub read : PartsRead counts position.index (before ++ here) parts segments
  pub tokens : new ≡ old ++ line_tokens position.line bits before here segments
  pub sums_after : AreSums before (here ++ segments) sums

-- the token of the first part of `line` is appended; an empty part has no token. `line` is the rest of a line, from
-- this position on. `tail` is the text after the `,` that ends the part, or `None` if `line` has no other part
pub record AddsFirstPart (counts : Counts) (position : PartPosition) (bits : List ℕ) (before here : List Segment)
    (line : List ℕ) (old new : List RawToken) (sums : Sums) (tail : Option (Bor (List ℕ))) : Type 0 where
  pub part : List ℕ
  pub split : parts_of line ≡ part ∷ option_map_or (λ rest. parts_of rest.now) tail []
  pub adds : AddsParts counts position bits before here (part ∷ []) old new sums

-- the token of the first part of `line` is appended, as in `AddsFirstPart`. The sums before the part are `earlier`, the
-- sums after the part are `later`. The segments `before` and `here` can be any segments with the sums `earlier`
pub record TakesPart (counts : Counts) (position : PartPosition) (bits line : List ℕ) (earlier later : Sums)
    (old new : List RawToken) (tail : Option (Bor (List ℕ))) : Type 0 where
  pub added : (before here : List Segment) → AreSums before here earlier
      → AddsFirstPart counts position bits before here line old new later tail
  pub shorter : IfSome tail (λ rest. length rest.now < length line)
  pub order : AreInOrderTo position.line earlier old → AreInOrderTo position.line later new
  pub on_line : AddsOnLine position.line old new

-- line n comes after the segments `before` and decodes without an error. The tokens of line n are appended. All sums
-- except the sum of columns include the segments `before` and the segments of line n. The sum of columns can have any
-- value
pub record AddsLine (counts : Counts) (n : ℕ) (before : List Segment) (text : LineText) (old new : List RawToken)
    (sums : Sums) : Type 0 where
  pub line : Line
  pub read : LineRead counts n before text line
  pub tokens : new ≡ old ++ line_tokens n line.bits before [] line.segments
  pub sums_after : AreTextSums (before ++ line.segments) sums

-- the lines of the rest of a text, or no lines if there is no rest
abbrev pub lines_left : Option (Bor (List ℕ)) → List (List ℕ)
lines_left text = option_map_or (λ rest. lines_of rest.now) text []
