-- Findings are made one after another.
use Rattle.std.proofs.Common.{◌≡◌, ◌<◌, ◌+◌, ◌∙◌, ℕ, List, [], ◌∷◌, ◌++◌, append_assoc, ap, get_or, length, map, sym, take}
use Rattle.std.proofs.lemmas.List.{map_more, map_push}

-- let `items` be made of the first entries after `old`, and `x` of the next one
pub one_made_more : {X Y Z : Type 0} (made : X → Z) (shown : Y → Z) (old : List Z) (items : List X) (x : X)
    (entries : List Y) (i : ℕ) (d : Y) → i < length entries → map made items ≡ old ++ map shown (take i entries)
    → made x ≡ shown (get_or entries i d)
    → map made (items ++ x ∷ []) ≡ old ++ map shown (take (i + 1) entries)
one_made_more made shown old items x entries i d within is same =
    map_push made items x
    ∙ ap (λ xs. xs ++ made x ∷ []) is
    ∙ ap (λ y. (old ++ map shown (take i entries)) ++ y ∷ []) same
    ∙ append_assoc old (map shown (take i entries)) (shown (get_or entries i d) ∷ [])
    ∙ ap (λ xs. old ++ xs) (sym (map_more shown entries i d within))
