use Rattle.std.proofs.Common.{◌≡◌, ◌<◌, length, ◌∙◌, ◌∷◌, ◌++◌, [], ℕ, List, get_or, map, take, string_bytes, sym, ap}
use Rattle.std.proofs.Common.{Some, unwrap_or, slice_get}
use Rattle.std.specs.declared.alloc.Global.{Global}
use Rattle.std.proofs.lemmas.List.{map-append, map_push, take_more}
use Rattle.std.proofs.lemmas.List.Elements.{All-get_or}
use Rattle.sourcemap_bundle_split.specs.ModuleMap.{texts_at}
use Rattle.sourcemap_texts.proofs.TextsLemmas.{text_there}
use Rattle.sourcemap_bundle_split.proofs.module_maps.texts_at.Goals as goal

pub loop-id-preserved : goal.loop-id-preserved
loop-id-preserved c =
    let texts : List (List ℕ) = map string_bytes c.args.texts.now in
    let ids = c.args.ids.now in
    let i = c.loop-id.id-index in
    let inside = c.loop-id-test.true in
    let id : ℕ = get_or ids i 0 in
    let below : id < length c.args.texts.now =
    All-get_or (λ k. k < length c.args.texts.now) ids i 0 inside c.requires in
    let there : slice_get texts id ≡ Some (string_bytes c.index-texts-id.result) =
    text_there c.args.texts.now id c.index-texts-id.result below c.index-texts-id.is in
    let text : string_bytes c.in_ok-clone.field-0 ≡ unwrap_or (slice_get texts id) [] =
    c.in_ok-clone.ensures.cases ∙ sym (ap (λ o. unwrap_or o []) there) in
    ap (map (string_bytes {Z = Global})) c.in_ok-push.ensures.items
    ∙ map_push (string_bytes {Z = Global}) c.loop-id.copies.items c.in_ok-clone.field-0
    ∙ ap (λ xs. xs ++ string_bytes c.in_ok-clone.field-0 ∷ []) c.loop-id.invariant
    ∙ ap (λ x. texts_at texts (take i ids) ++ x ∷ []) text
    ∙ sym (ap (texts_at texts) (take_more ids i 0 inside)
    ∙ map-append (λ id. unwrap_or (slice_get texts id) []) (take i ids) (id ∷ []))
