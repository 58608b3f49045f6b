-- Segments of mappings, as numbers and as texts.
use Rattle.std.specs.Prelude.{◌≡◌, ◌⊎◌, ◌++◌, ℕ, ℤ, List, Option, Some, None, Result, Ok, Err, drop, length, min, take}
use Rattle.std.specs.Str.{IsUtf8}
use Rattle.sourcemap_errors.specs.declared.errors.Error.{Error}
use Rattle.sourcemap_vlq.specs.Vlq.{SegmentAnswers, Spells}
use Rattle.sourcemap_c.specs.Codes.{IsNoText}

-- how many numbers fit into an array
abbrev pub fitting : {X : Type 0} → (numbers array : List X) → ℕ
fitting numbers array = min (length numbers) (length array)

-- the array with its first items replaced by the numbers, as many as fit
abbrev pub overwritten : {X : Type 0} → (numbers array : List X) → List X
overwritten numbers array = take (fitting numbers array) numbers ++ drop (fitting numbers array) array

-- the numbers are written to an array, as many as fit; `count` is how many
abbrev pub Overwrites : {X : Type 0} → (numbers : List X) → (count : ℕ) → (old new : List X) → Type 0
Overwrites numbers count old new = (count ≡ fitting numbers old) × (new ≡ overwritten numbers old)

-- the result of decoding bytes as a segment: the numbers, the first error of the segment, or `Utf8` if the bytes are
-- not UTF-8
abbrev pub ParsingAnswers : List ℕ → Result (List ℤ) Error → Type 0
ParsingAnswers bytes (Ok numbers) = IsUtf8 bytes × SegmentAnswers bytes (Ok numbers)
ParsingAnswers bytes (Err e) = IsNoText bytes e ⊎ (IsUtf8 bytes × SegmentAnswers bytes (Err e))

-- the numbers of a segment are written, as many as fit; `count` is how many numbers the segment has
pub record WritesNumbers (segment : List ℕ) (old new : List ℤ) (count : ℕ) : Type 0 where
  pub numbers : List ℤ
  pub parsed : ParsingAnswers segment (Ok numbers)
  pub written : new ≡ overwritten numbers old
  pub counted : count ≡ length numbers

-- the handle has the text of a segment with these numbers, each number in as few digits as possible, and 0 as `A`
abbrev pub HoldsSegment : List ℤ → Option (List ℕ) → Type 0
HoldsSegment numbers (Some text) = Spells numbers text
HoldsSegment numbers None = ⊥
