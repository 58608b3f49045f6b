-- Equality of token lists compares all fields of all tokens.
use Rattle.std.specs.Prelude.{List, Bool, nat_eq}
use Rattle.std.specs.Bool.{beq}
use Rattle.std.specs.Ordering.{on, eq_of_both}
use Rattle.std.specs.Cmp.{IsEquivalence}
use Rattle.std.specs.Cmp.Rules.{comparing}
use Rattle.std.specs.Cmp.Lexicographic.{pointwise}
use Rattle.std.proofs.Common.{rules}
use Rattle.sourcemap_tokens.specs.declared.tokens.RawToken.{RawToken}

-- whether two tokens are equal in all fields
abbrev pub same_raw : RawToken → RawToken → Bool
same_raw =
    eq_of_both (on (λ t. t.dst_line) nat_eq)
    (eq_of_both (on (λ t. t.dst_col) nat_eq)
    (eq_of_both (on (λ t. t.src_line) nat_eq)
    (eq_of_both (on (λ t. t.src_col) nat_eq)
    (eq_of_both (on (λ t. t.src_id) nat_eq)
    (eq_of_both (on (λ t. t.name_id) nat_eq)
    (on (λ t. t.is_range) beq))))))

-- whether two lists have the same length, and equal tokens at each index
abbrev pub same_tokens : List RawToken → List RawToken → Bool
same_tokens = pointwise same_raw

pub same_tokens_equiv : IsEquivalence same_tokens
same_tokens_equiv = search (comparing, rules) depth 16
