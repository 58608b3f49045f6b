-- Items taken out of a list by their ids.
use Rattle.std.proofs.Common.{◌≡◌, ◌≢◌, ℕ, zero, suc, List, [], ◌∷◌, ◌++◌, false, nat_eq, None, Option, option_map}
use Rattle.std.proofs.Common.{option_and_then, length, map, slice_get, slice_set, sym, ap, ap₂, ◌∙◌, refl, append_assoc}
use Rattle.std.proofs.Common.{arith}
use Rattle.std.specs.List.{IsDistinct, AllByRecursion}
use Rattle.std.proofs.lemmas.Bool.Decides.{nat_tests}
use Rattle.std.proofs.lemmas.List.{map-set}
use Rattle.sourcemap_tokens.specs.Items.{item_at}
use Rattle.sourcemap_hermes_scopes.specs.Picks.{items_at, moved_items}

-- If the ids are distinct, moving the items out gives the same items as copying the items.

slice_get-other : {X : Type 0} (xs : List X) (i j : ℕ) (x : X) → i ≢ j → slice_get (slice_set xs i x) j ≡ slice_get xs j
slice_get-other [] i j x ne = refl
slice_get-other (y ∷ ys) zero zero x ne = absurd (ne refl)
slice_get-other (y ∷ ys) zero (suc j) x ne = refl
slice_get-other (y ∷ ys) (suc i) zero x ne = refl
slice_get-other (y ∷ ys) (suc i) (suc j) x ne = slice_get-other ys i j x (λ e. ne (ap suc e))

left_as_it_was : {X : Type 0} (items : List (Option X)) (id : ℕ) (rest : List ℕ)
    → AllByRecursion (λ y. nat_eq id y ≡ false) rest
    → items_at (slice_set items id None) rest ≡ items_at items rest
left_as_it_was items id [] apart = refl
left_as_it_was items id (y ∷ rest) apart =
    let differs = apart.0 in
    let ne : id ≢ y = λ e. grind (arith, nat_tests, e, differs) in
    ap₂ ◌∷◌ (ap (option_and_then (λ item. item)) (slice_get-other items id y None ne))
    (left_as_it_was items id rest apart.1)

pub moved-distinct : {X : Type 0} (items : List (Option X)) (ids : List ℕ) → IsDistinct nat_eq ids
    → moved_items items ids ≡ items_at items ids
unfolding IsDistinct
moved-distinct items [] distinct = refl
moved-distinct items (id ∷ ids) distinct =
    ap (λ rest. item_at items id ∷ rest)
    (moved-distinct (slice_set items id None) ids distinct.1 ∙ left_as_it_was items id ids distinct.0)

-- `moved_items` returns a list as long as the list of ids.

pub moved-length : {X : Type 0} (items : List (Option X)) (ids : List ℕ) → length (moved_items items ids) ≡ length ids
moved-length items [] = refl
moved-length items (id ∷ ids) = ap suc (moved-length (slice_set items id None) ids)

-- A function can be applied to each item before or after the items are moved out, with the same result.

item_at-map : {X Y : Type 0} (f : X → Y) (xs : List (Option X)) (id : ℕ)
    → item_at (map (option_map f) xs) id ≡ option_map f (item_at xs id)
item_at-map f [] id = refl
item_at-map f (x ∷ xs) zero = refl
item_at-map f (x ∷ xs) (suc id) = item_at-map f xs id

pub moved-map : {X Y : Type 0} (f : X → Y) (xs : List (Option X)) (ids : List ℕ)
    → moved_items (map (option_map f) xs) ids ≡ map (option_map f) (moved_items xs ids)
moved-map f xs [] = refl
moved-map f xs (id ∷ ids) =
    ap₂ ◌∷◌ (item_at-map f xs id)
    (ap (λ ys. moved_items ys ids) (sym (map-set (option_map f) xs id None)) ∙ moved-map f (slice_set xs id None) ids)

-- Let `whole` be `done` followed by `moved_items items (id ∷ rest)`. Let `left` be `items` with item `id`, if any, set
-- to `None`. Then `whole` is also `done` with `item_at items id` appended, followed by `moved_items left rest`.
pub moved-more : {X : Type 0} (whole done items : List (Option X)) (id : ℕ) (rest : List ℕ)
    → whole ≡ done ++ moved_items items (id ∷ rest)
    → whole ≡ (done ++ item_at items id ∷ []) ++ moved_items (slice_set items id None) rest
moved-more whole done items id rest is =
    is ∙ sym (append_assoc done (item_at items id ∷ []) (moved_items (slice_set items id None) rest))
