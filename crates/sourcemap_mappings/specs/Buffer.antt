-- The digits in the buffer.
use Rattle.std.specs.Prelude.{◌≡◌, ℕ, ◌+◌, ℤ, List, ◌++◌, nat_lt, if◌then◌else◌, ◌-◌, ◌*◌}
use Rattle.sourcemap_vlq.specs.Vlq.{Spells}

-- `new` is `old` with the shortest digit sequence of each of `numbers` appended, in order (`Spells`)
pub record Adds (numbers : List ℤ) (old new : List ℕ) : Type 0 where
  pub digits : List ℕ
  pub spelled : Spells numbers digits
  pub added : new ≡ old ++ digits

-- the raw value of `number` minus `against`: twice the absolute value of this difference, plus 1 if it is negative
abbrev pub raw_difference : ℕ → ℕ → ℕ
raw_difference number against = if nat_lt number against then 2 * (against - number) + 1 else 2 * (number - against)
