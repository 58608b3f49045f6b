use Rattle.std.proofs.Common.{◌≡◌, [], ℕ, ◌+◌, ◌++◌, ◌∷◌, List, None, Some, length, map, take, slice_get, option_map}
use Rattle.std.proofs.Common.{sym, ap, subst, ◌∙◌}
use Rattle.std.proofs.lemmas.List.{map_push, take-map, take_more, length-map, length-take-le}
use Rattle.std.proofs.lemmas.Option.{slice_get-map}
use Rattle.sourcemap_interning.specs.Interner.{AreDistinct, id_of}
use Rattle.sourcemap_interning.specs.Slots.{IsTable}
use Rattle.sourcemap_interning.proofs.IndexLemmas.{new-among}
use Rattle.sourcemap_interning.proofs.ItemLemmas.{slice_get-indexed}
use Rattle.sourcemap_interning.proofs.text_index.TextIndex.grow.Goals as goal

pub loop-number-preserved : goal.loop-number-preserved
loop-number-preserved g c =
    let bytes = g.T.Text.bytes in
    let items = c.deref-text-items.result.now in
    let i = c.loop-number.number in
    let item = c.text-item.result in
    let before : List (List ℕ) = map bytes (take i items) in
    let distinct : AreDistinct (map bytes items) =
    subst (λ xs. AreDistinct (map bytes xs)) (sym c.deref-text-items.ensures.value) c.self.invariant.distinct in
    let at : slice_get (map bytes items) i ≡ Some (bytes item) =
    slice_get-map bytes items i
    ∙ ap (option_map bytes) (slice_get-indexed items i item c.loop-number-test.true c.text-item.is) in
    let new : id_of (bytes item) before ≡ None =
    ap (id_of (bytes item)) (sym (take-map bytes i items)) ∙ new-among (map bytes items) i (bytes item) distinct at in
    let counted : length before ≡ i =
    length-map (take i items) bytes ∙ length-take-le i items c.loop-number.auto.number-end in
    let taken : take (i + 1) items ≡ take i items ++ item ∷ [] =
    take_more items i item c.loop-number-test.true ∙ ap (λ x. take i items ++ x ∷ []) (sym c.text-item.is) in
    subst (λ texts. IsTable bytes texts c.enter.new.self)
    (sym (ap (map bytes) taken ∙ map_push bytes (take i items) item))
    (c.in_ok-enter.ensures.entered before c.loop-number.invariant counted new)
