-- Marks of the items of a list.
use Rattle.std.specs.Prelude.{◌≡◌, ℕ, ◌<◌, Bool, false, Vec, length}
use Rattle.std.specs.List.{slice_index_or}
use Rattle.std.specs.declared.alloc.Global.{Global}

-- a mark for each index below a number, set where the test holds
pub record AreMarks (test : ℕ → Bool) (count : ℕ) (marks : Vec Bool Global) : Type 0 where
  pub count_is : length marks.items ≡ count
  pub each : (i : ℕ) → i < count → slice_index_or marks.items i false ≡ test i
