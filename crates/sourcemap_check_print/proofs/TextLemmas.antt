-- Texts that grow part by part.
use Rattle.std.proofs.Common.{◌≡◌, ℕ, ◌+◌, ◌<◌, List, ◌++◌, flat_map, get_or, length, take, append_assoc, sym, ap, ◌∙◌}
use Rattle.std.proofs.lemmas.List.{flat_map_more, take_more}

-- let `now` be `old` and the parts `done`, and `new` be `now` and one part more
pub one_more : (old done part now new : List ℕ) → now ≡ old ++ done → new ≡ now ++ part → new ≡ old ++ (done ++ part)
one_more old done part now new is more = more ∙ ap (λ text. text ++ part) is ∙ append_assoc old done part

-- let `now` be `old` and the texts of the first items, and `new` be `now` and the text of the next item
pub one_item_more : {X : Type 0} (text : X → List ℕ) (items : List X) (i : ℕ) (d : X) (old now new : List ℕ)
    → i < length items → now ≡ old ++ flat_map text (take i items) → new ≡ now ++ text (get_or items i d)
    → new ≡ old ++ flat_map text (take (i + 1) items)
one_item_more text items i d old now new within is more =
    more ∙ ap (λ texts. texts ++ text (get_or items i d)) is
    ∙ flat_map_more text old (take i items) (get_or items i d)
    ∙ ap (λ first. old ++ flat_map text first) (sym (take_more items i d within))
