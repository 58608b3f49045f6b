-- Lines that are not before the first line of a module stay in the same order when they are counted from that line.
use Rattle.std.proofs.Common.{◌≡◌, refl, ℕ, ◌-◌, ◌≤◌, Bool, true, false, not, nat_lt, nat_eq, arith}
use Rattle.std.specs.Ordering.{is_lt, nat_cmp}
use Rattle.std.proofs.lemmas.Bool.Decides.{nat_tests}
use Rattle.sourcemap_tokens.specs.Tokens.{position_cmp}
use Rattle.sourcemap_bundle_split.specs.ModuleMap.{is_in}

-- a position in a range (`is_in`) is on the first line of the range or on a later line
pub in-later : (line : ℕ) (end p : ℕ × ℕ) → is_in line end p ≡ true → line ≤ p.0
in-later line end p inside = by_cases (nat_lt p.0 line) refl
  where
    by_cases : (b : Bool) → nat_lt p.0 line ≡ b → line ≤ p.0
    by_cases true b = let no : false ≡ true = (rw b at inside) in cc
    by_cases false b = grind (arith, nat_tests, b)

pub less-relative_position : (a b line : ℕ) → line ≤ a → line ≤ b → nat_lt (a - line) (b - line) ≡ nat_lt a b
less-relative_position a b line la lb = grind (arith, nat_tests)

pub same-relative_position : (a b line : ℕ) → line ≤ a → line ≤ b → nat_eq (a - line) (b - line) ≡ nat_eq a b
same-relative_position a b line la lb = grind (arith, nat_tests)

pub cmp-relative_position : (a b line : ℕ) → line ≤ a → line ≤ b → nat_cmp (a - line) (b - line) ≡ nat_cmp a b
cmp-relative_position a b line la lb =
    rw (less-relative_position a b line la lb, same-relative_position a b line la lb) refl

-- a position that is not before the start of `line` is on `line` or on a later line
pub not_before-line : (line : ℕ) (p : ℕ × ℕ) → not (is_lt (position_cmp p (line, 0))) ≡ true → line ≤ p.0
not_before-line line p passes = by_cases (nat_lt p.0 line) refl
  where
    by_cases : (b : Bool) → nat_lt p.0 line ≡ b → line ≤ p.0
    by_cases true b = let no : false ≡ true = (rw b at passes) in cc
    by_cases false b = grind (arith, nat_tests, b)
