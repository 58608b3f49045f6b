-- `same_raw` is true exactly for equal tokens, and a list has at most one token at an index.
use Rattle.std.proofs.Common.{◌≡◌, refl, ap, ℕ, List, Option, Some, None, option_map, slice_get}
use Rattle.std.specs.Option.{IfSome}
use Rattle.std.specs.Bool.{Decides}
use Rattle.std.specs.Cmp.{unsigned_Decides, booleans_Decides}
use Rattle.std.specs.Cmp.Lexicographic.{pointwise_decides}
use Rattle.sourcemap_tokens.specs.Tokens.{closest_token, destination, position_cmp}
use Rattle.sourcemap_tokens.proofs.SearchLemmas.{index-closest}
use Rattle.sourcemap_tokens.specs.declared.tokens.RawToken.{RawToken}
use Rattle.sourcemap_tokens.proofs.DecidesLemmas.{decides_both}
use Rattle.sourcemap_line_index.specs.TokenList.{same_raw, same_tokens}

pub raw_decides : (a b : RawToken) → Decides (same_raw a b) (a ≡ b)
raw_decides a b =
    let all =
    decides_both (unsigned_Decides a.dst_line b.dst_line)
    (decides_both (unsigned_Decides a.dst_col b.dst_col)
    (decides_both (unsigned_Decides a.src_line b.src_line)
    (decides_both (unsigned_Decides a.src_col b.src_col)
    (decides_both (unsigned_Decides a.src_id b.src_id)
    (decides_both (unsigned_Decides a.name_id b.name_id)
    (booleans_Decides a.is_range b.is_range)))))) in (
      λ h. let p = all.0 h in λ i. record {
        dst_line = p.0 i;
        dst_col = p.1.0 i;
        src_line = p.1.1.0 i;
        src_col = p.1.1.1.0 i;
        src_id = p.1.1.1.1.0 i;
        name_id = p.1.1.1.1.1.0 i;
        is_range = p.1.1.1.1.1.1 i;
      },
      λ h. all.1 (
        ap (λ (t : RawToken). t.dst_line) h,
        (
          ap (λ (t : RawToken). t.dst_col) h,
          (
            ap (λ (t : RawToken). t.src_line) h,
            (
              ap (λ (t : RawToken). t.src_col) h,
              (
                ap (λ (t : RawToken). t.src_id) h,
                (
                  ap (λ (t : RawToken). t.name_id) h,
                  ap (λ (t : RawToken). t.is_range) h,
                ),
              ),
            ),
          ),
        ),
      ),
    )

pub tokens_decide : (a b : List RawToken) → Decides (same_tokens a b) (a ≡ b)
tokens_decide = pointwise_decides raw_decides

-- let `r` and `s` each be `None`, or a pair of an index and the token at this index of `tokens`. If `r` and `s` have
-- the same index, or both are `None`, then `r` equals `s`
one_at_index : (tokens : List RawToken) (r s : Option (ℕ × RawToken))
    → option_map (λ found. found.0) r ≡ option_map (λ found. found.0) s → IfSome r (λ found. slice_get tokens found.0
    ≡ Some found.1) → IfSome s (λ found. slice_get tokens found.0 ≡ Some found.1) → r ≡ s
one_at_index tokens None None e own own' = refl
one_at_index tokens None (Some s) e own own' = cc
one_at_index tokens (Some r) None e own own' = cc
one_at_index tokens (Some (i, t)) (Some (j, u)) e own own' = cc

-- the token at the index of the closest token is the closest token
pub closest_from_index : (tokens : List RawToken) (p : ℕ × ℕ) (r : Option (ℕ × RawToken))
    → option_map (λ found. found.0) r ≡ option_map (λ found. found.0) (closest_token tokens p)
    → IfSome r (λ found. slice_get tokens found.0 ≡ Some found.1) → r ≡ closest_token tokens p
closest_from_index tokens p r e own =
    one_at_index tokens r (closest_token tokens p) e own (index-closest destination position_cmp tokens p)
