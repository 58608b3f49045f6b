-- The order of tokens, by the results of their getters.
use Rattle.std.specs.Prelude.{ℕ, List, Bool, Option}
use Rattle.std.specs.Option.{option_cmp}
use Rattle.std.specs.Ordering.{nat_cmp, bool_cmp, on, then_cmp, is_eq}
use Rattle.std.specs.Cmp.{IsTotalOrder, IsEquivalence, eq_by_cmp_equiv}
use Rattle.std.specs.Cmp.Rules.{comparing}
use Rattle.std.proofs.Common.{rules}
use Rattle.std.specs.Cmp.Lexicographic.{slice_cmp}
use Rattle.std.specs.declared.cmp.Ordering.{Ordering}
use Rattle.sourcemap_map_regular.specs.Token.{meaning_of_token}
use Rattle.sourcemap_map_regular.specs.declared.token.Token.{Token}

-- orders optional texts by their bytes; `None` comes first
abbrev pub text_cmp : Option (List ℕ) → Option (List ℕ) → Ordering
text_cmp = option_cmp (slice_cmp nat_cmp)

-- orders tokens by generated position, source, original position, name, and range flag
abbrev pub token_cmp : Token → Token → Ordering
token_cmp =
    then_cmp (then_cmp (then_cmp (then_cmp (then_cmp (then_cmp
    (on (λ t. t.raw.dst_line) nat_cmp)
    (on (λ t. t.raw.dst_col) nat_cmp))
    (on (λ t. (meaning_of_token t).source) text_cmp))
    (on (λ t. (meaning_of_token t).line) nat_cmp))
    (on (λ t. (meaning_of_token t).column) nat_cmp))
    (on (λ t. (meaning_of_token t).name) text_cmp))
    (on (λ t. (meaning_of_token t).is_range) bool_cmp)

-- the tokens are equal by `token_cmp`
abbrev pub same_token : Token → Token → Bool
same_token s t = is_eq (token_cmp s t)

pub token_cmp_total : IsTotalOrder token_cmp
token_cmp_total = search (comparing, rules) depth 12

pub same_token_equiv : IsEquivalence same_token
same_token_equiv = eq_by_cmp_equiv token_cmp_total
