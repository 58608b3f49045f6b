-- For 32-bit `a` and `b`, the high half of the 64-bit wrapping `a - b` is all ones if `a` is less than `b`, else 0.
use Rattle.std.proofs.Common.{◌≡◌, ◌∙◌, ℕ, ◌<◌, ◌≤◌, ◌+◌, ◌-◌, ◌/◌, ◌%◌, arith, inl, inr, bit_and, nat_lt}
use Rattle.std.proofs.Common.{if◌then◌else◌}
use Rattle.std.specs.Int.Bits.{and_zero_r}
use Rattle.std.proofs.lemmas.Bool.{cases_lt, lt-ltb, le-ltb}
use Rattle.std.proofs.lemmas.Nat.{and_mask}

high_set : (a b : ℕ) → a < b → b < 4294967296
    → (a + (18446744073709551616 - b)) % 18446744073709551616 / 4294967296 ≡ 4294967295
high_set a b l small = omega arith

high_clear : (a b : ℕ) → b ≤ a → a < 4294967296
    → (a + (18446744073709551616 - b)) % 18446744073709551616 / 4294967296 ≡ 0
high_clear a b l small = omega arith

kept_by_mask : (steps : ℕ) → steps < 4294967296 → bit_and steps 4294967295 ≡ steps
kept_by_mask steps small = let kept : bit_and steps 4294967295 ≡ steps % 4294967296 = and_mask steps 32 in
    kept ∙ (omega arith)

-- take the high half of the 64-bit wrapping difference a - b. The bitwise AND of this half and `steps` is `steps` if a
-- is less than b, otherwise 0. Each of a, b and `steps` is below 2^32
pub masked : (a b steps : ℕ) → a < 4294967296 → b < 4294967296 → steps < 4294967296 → bit_and steps
    ((a + (18446744073709551616 - b)) % 18446744073709551616 / 4294967296) ≡ (if nat_lt a b then steps else 0)
masked a b steps fits fits' small =
    elim (cases_lt a b) [
      | inl l ↦ rw (high_set a b l fits', lt-ltb a b l) (kept_by_mask steps small)
      | inr past ↦ rw (high_clear a b past fits, le-ltb a b past) (and_zero_r steps)
    ]
