-- The blocks of a compiled map.
use Rattle.std.proofs.Common.{◌≡◌, refl, ℕ, zero, suc, ◌+◌, ◌*◌, ◌/◌, ◌^◌, ◌<◌, ◌∙◌, List, add-one, arith}
use Rattle.std.proofs.Math.Nat.{two-pow-succ}
use Rattle.std.specs.Int.{IsPowerOfTwo}
use Rattle.sourcemap_compiled.specs.Blocks.{width_at, widths_before}

pub widths_before-none : (bytes : List ℕ) (head : ℕ) → widths_before bytes head 0 ≡ 0
unfolding widths_before
widths_before-none bytes head = refl

pub widths_before-more : (bytes : List ℕ) (head field : ℕ)
    → widths_before bytes head (field + 1) ≡ widths_before bytes head field + width_at bytes head field
unfolding widths_before
widths_before-more bytes head field = rw add-one refl

pub ruleset widths_before_steps = (widths_before-none, widths_before-more)

-- the number of places that a search has left is one less than a power of 2, and so is its half: both sides of the
-- middle have as many
pub odd_rest : (rest : ℕ) → IsPowerOfTwo (rest + 1) → 0 < rest → rest ≡ 2 * (rest / 2) + 1
odd_rest rest (zero, same) some = let one : rest + 1 ≡ 1 = same in absurd (omega arith)
odd_rest rest (suc k, same) some = let double : rest + 1 ≡ 2 ^ k + 2 ^ k = same ∙ two-pow-succ k in omega arith

pub half_of_rest : (rest : ℕ) → IsPowerOfTwo (rest + 1) → 0 < rest → IsPowerOfTwo (rest / 2 + 1)
half_of_rest rest (zero, same) some = let one : rest + 1 ≡ 1 = same in absurd (omega arith)
half_of_rest rest (suc k, same) some =
    let double : rest + 1 ≡ 2 ^ k + 2 ^ k = same ∙ two-pow-succ k in (k, omega arith)
