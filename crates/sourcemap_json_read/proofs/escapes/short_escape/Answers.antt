use Rattle.std.proofs.Common.{◌≡◌, ℕ, ◌<◌, map, get_or, Option, Some, None, refl, sym, ap, ◌∙◌, subst, arith}
use Rattle.std.proofs.lemmas.Bool.Decides.{nat_tests}
use Rattle.std.proofs.lemmas.List.FromFn.{get_or-map-range_with_len}
use Rattle.std.specs.List.{range_with_len}
use Rattle.json.specs.Text.{short_escape}
use Rattle.sourcemap_json_read.specs.declared.escapes.TheConstants.{SHORT}
use Rattle.sourcemap_json_read.proofs.escapes.short_escape.Goals as goal

abbrev or_zero : Option ℕ → ℕ
or_zero None = 0
or_zero (Some x) = x

-- for each byte, `SHORT` has what a backslash and this byte decode to, or 0 if they are not a two-byte escape
table_is : SHORT ≡ map (λ b. or_zero (short_escape b)) (range_with_len 0 256)
unfolding short_escape
table_is = refl

read : (b : ℕ) → b < 256 → get_or SHORT b 0 ≡ or_zero (short_escape b)
read b h = ap (λ t. get_or t b 0) table_is
    ∙ get_or-map-range_with_len (λ x. or_zero (short_escape x)) 0 256 b b 0 h (omega arith)

some : (o : Option ℕ) → 0 < or_zero o → o ≡ Some (or_zero o)
some None h = absurd (omega arith)
some (Some x) h = refl

are_ascii : (b c : ℕ) → short_escape b ≡ Some c → (c < 128) × (b < 128)
unfolding short_escape
are_ascii b c is = (grind (arith, nat_tests), grind (arith, nat_tests))

found : (b : ℕ) → b < 256 → 0 < get_or SHORT b 0 → short_escape b ≡ Some (get_or SHORT b 0)
found b h more =
    let is = read b h in
    some (short_escape b) (omega (arith, is)) ∙ ap Some (sym is)

pub returns-clause-value : goal.returns-clause-value
returns-clause-value c =
    λ more. subst (λ b. short_escape b ≡ Some (get_or SHORT c.from.result 0)) c.from.ensures
    (found c.from.result (omega arith) more)

pub returns-clause-ascii : goal.returns-clause-ascii
returns-clause-ascii c =
    λ more. subst (λ b. (get_or SHORT c.from.result 0 < 128) × (b < 128)) c.from.ensures
    (are_ascii c.from.result (get_or SHORT c.from.result 0) (found c.from.result (omega arith) more))
