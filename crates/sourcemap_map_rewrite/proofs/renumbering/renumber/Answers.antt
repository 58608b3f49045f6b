use Rattle.std.proofs.Common.{◌≡◌, ℕ, List, length, map, string_bytes, refl, sym, ap, subst, ◌∙◌}
use Rattle.std.specs.declared.alloc.Global.{Global}
use Rattle.std.proofs.lemmas.List.{with_items_is, length-map}
use Rattle.sourcemap_tokens.specs.Tokens.{AreInOrder}
use Rattle.sourcemap_map_rewrite.specs.Numbering.{numbered_with}
use Rattle.sourcemap_map_rewrite.specs.Renumbering.{IsRenumbered}
use Rattle.sourcemap_map_rewrite.proofs.RenumberingLemmas.{AreInOrder-map}
use Rattle.sourcemap_map_rewrite.proofs.RewrittenLemmas.{same_Ok}
use Rattle.sourcemap_map_rewrite.proofs.renumbering.renumber.Goals as goal

pub of_sorted-requires : goal.of_sorted-requires
of_sorted-requires c =
    let S : List (List ℕ) = map (string_bytes {Z = Global}) c.args.sources.now in
    let N : List (List ℕ) = map (string_bytes {Z = Global}) c.args.names.now in
    let r = c.in_ok-numbers.numbers in
    let new = c.renumber_each.new.tokens in
    let ok : IsRenumbered S N c.args.tokens new r =
    subst (λ old. IsRenumbered S N old new r)
    (c.as_mut_slice.ensures.value ∙ c.into_vec-tokens.ensures.value) c.in_ok-numbers.ensures.ok in
    let many : length new ≡ c.into_vec-tokens.result.len =
    ap length ok.tokens ∙ length-map c.args.tokens (numbered_with S N r.sources r.names)
    ∙ ap length (sym c.into_vec-tokens.ensures.value) ∙ sym c.into_vec-tokens.result.ok.0 in
    subst AreInOrder (sym (with_items_is c.into_vec-tokens.result new many ∙ ok.tokens))
    (AreInOrder-map (numbered_with S N r.sources r.names) (λ t. refl) c.args.tokens c.into_vec-tokens.ensures.in_order)

pub returns-clause-ok : goal.returns-clause-ok
returns-clause-ok c =
    let S : List (List ℕ) = map (string_bytes {Z = Global}) c.args.sources.now in
    let N : List (List ℕ) = map (string_bytes {Z = Global}) c.args.names.now in
    let r = c.in_ok-numbers.numbers in
    let new = c.renumber_each.new.tokens in
    let ok : IsRenumbered S N c.args.tokens new r =
    subst (λ old. IsRenumbered S N old new r)
    (c.as_mut_slice.ensures.value ∙ c.into_vec-tokens.ensures.value) c.in_ok-numbers.ensures.ok in
    let many : length new ≡ c.into_vec-tokens.result.len =
    ap length ok.tokens ∙ length-map c.args.tokens (numbered_with S N r.sources r.names)
    ∙ ap length (sym c.into_vec-tokens.ensures.value) ∙ sym c.into_vec-tokens.result.ok.0 in
    let kept = same_Ok _ c.in_ok-tokens.tokens c.in_ok-tokens.ensures in
    subst (λ now. IsRenumbered S N c.args.tokens now r)
    (sym (with_items_is c.into_vec-tokens.result new many) ∙ kept) ok
