-- The numbers of a segment, as a page reads them.
use Rattle.std.specs.Prelude.{◌≡◌, ◌≢◌, ◌⊎◌, ◌<◌, ◌≤◌, ◌++◌, ℕ, ℤ, List, [], length, slice_get, Ok}
use Rattle.sourcemap_errors.specs.declared.errors.Error.{Error}
use Rattle.sourcemap_errors.specs.declared.errors.Error.TheVariants.{VlqNoValues}
use Rattle.sourcemap_vlq.specs.Vlq.{NumberError, Reads, SegmentAnswers}
use Rattle.sourcemap_c_handles.specs.Errors.{error_code, number_of}

-- the numbers are written to an array, as many as fit; the other items are as they were
pub record AreWritten (numbers old new : List ℤ) : Type 0 where
  pub each : (i : ℕ) → i < length numbers → i < length old → slice_get new i ≡ slice_get numbers i
  pub rest : (i : ℕ) → length numbers ≤ i → slice_get new i ≡ slice_get old i

-- a segment has these numbers, and then this error
abbrev pub StopsAfter : List ℕ → List ℤ → Error → Type 0
StopsAfter segment numbers VlqNoValues = (segment ≡ []) × (numbers ≡ [])
StopsAfter segment numbers e =
    (front rest : List ℕ) × Reads front numbers × (segment ≡ front ++ rest) × (rest ≢ []) × NumberError rest e

-- with code 0, all numbers of a segment and how many there are; otherwise the first error, and the numbers before it
abbrev pub ReturnsNumbers : List ℕ → (code : ℕ) → (old new : List ℤ) → (old_count count : ℕ) → Type 0
ReturnsNumbers segment code old new old_count count = (numbers : List ℤ) × AreWritten numbers old new
    × (((code ≡ 0) × SegmentAnswers segment (Ok numbers) × (count ≡ length numbers))
    ⊎ ((e : Error) × StopsAfter segment numbers e × (code ≡ number_of (error_code e)) × (count ≡ old_count)))
