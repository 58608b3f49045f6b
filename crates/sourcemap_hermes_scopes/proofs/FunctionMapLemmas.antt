-- The offset that a search finds, and equality of lists of offsets.
use Rattle.std.proofs.Common.{◌≡◌, ℕ, ◌+◌, List, Option, Some, None, option_map, ap, ◌∙◌, refl}
use Rattle.std.specs.Bool.{Decides}
use Rattle.std.specs.Cmp.{unsigned_Decides}
use Rattle.std.specs.Cmp.Lexicographic.{pointwise_decides}
use Rattle.sourcemap_tokens.specs.Search.{closest}
use Rattle.sourcemap_tokens.specs.Tokens.{position_cmp}
use Rattle.sourcemap_tokens.proofs.SearchLemmas.{item-closest}
use Rattle.sourcemap_tokens.proofs.DecidesLemmas.{decides_both}
use Rattle.sourcemap_hermes_scopes.specs.declared.offsets.HermesScopeOffset.{HermesScopeOffset}
use Rattle.sourcemap_hermes_scopes.specs.FunctionMap.{offset_position, closest_offset, same_offset, same_offsets}

-- let `found` be the result of the search for `p` in `offsets`. If `found` has an offset, this offset has the same name
-- index as `closest_offset offsets p`. If `found` is `None`, `closest_offset offsets p` is `None` too
pub name_found : (offsets : List HermesScopeOffset) (p : ℕ × ℕ) (found : Option (ℕ × HermesScopeOffset))
    → found ≡ closest offset_position position_cmp offsets (p.0 + 1, p.1)
    → option_map (λ (e : ℕ × HermesScopeOffset). e.1.name_index) found
    ≡ option_map (λ (o : HermesScopeOffset). o.name_index) (closest_offset offsets p)
name_found offsets p found is =
    name_of_item found ∙ ap (λ e. option_map (λ (o : HermesScopeOffset). o.name_index)
    (option_map (λ (e : ℕ × HermesScopeOffset). e.1) e)) is
    ∙ ap (option_map (λ (o : HermesScopeOffset). o.name_index))
    (item-closest offset_position position_cmp offsets (p.0 + 1, p.1))
  where
    name_of_item : (found : Option (ℕ × HermesScopeOffset))
        → option_map (λ (e : ℕ × HermesScopeOffset). e.1.name_index) found
        ≡ option_map (λ (o : HermesScopeOffset). o.name_index) (option_map (λ (e : ℕ × HermesScopeOffset). e.1) found)
    name_of_item None = refl
    name_of_item (Some e) = refl

offset_decides : (a b : HermesScopeOffset) → Decides (same_offset a b) (a ≡ b)
offset_decides a b =
    let all =
    decides_both (unsigned_Decides a.line b.line)
    (decides_both (unsigned_Decides a.column b.column) (unsigned_Decides a.name_index b.name_index)) in (
      λ h. let p = all.0 h in λ i. record { line = p.0 i; column = p.1.0 i; name_index = p.1.1 i },
      λ h. all.1 (
        ap (λ (o : HermesScopeOffset). o.line) h,
        (ap (λ (o : HermesScopeOffset). o.column) h, ap (λ (o : HermesScopeOffset). o.name_index) h),
      ),
    )

pub offsets_decide : (a b : List HermesScopeOffset) → Decides (same_offsets a b) (a ≡ b)
offsets_decide = pointwise_decides offset_decides
