-- Sorted lists, concatenated or mapped.
use Rattle.std.proofs.Common.{◌≡◌, refl, sym, ap, subst, ◌∙◌, List, [], ◌∷◌, ◌++◌, map, Bool, true, false, cond, IsSortedByKey}
use Rattle.std.proofs.lemmas.List.Elements.{filter-append}
use Rattle.std.specs.Cmp.{IsTotalOrder}
use Rattle.std.specs.List.{AllByRecursion}
use Rattle.std.specs.List.Sorted.{ties, IsStableByKey}
use Rattle.std.specs.Ordering.{is_lt}
use Rattle.std.specs.declared.cmp.Ordering.{Ordering}
use Rattle.sourcemap_tokens.proofs.AllLemmas.{All-map, All-unmapped}
use Rattle.sourcemap_tokens.proofs.SortLemmas.{Rises, Rises-from_sorted, sorted_from_Rises, All-sorted_by, sorted-sorted_by, stable-sorted_by, stably_sorted}
use Rattle.std.proofs.lemmas.List.Sorted.{ranks_by}
use Rattle.sourcemap_tokens.specs.Tokens.{insert_by, sorted_by}

module _ {X K : Type 0} (key : X → K) (cmp : K → K → Ordering) where
  insert_by-append : (x : X) (ys zs : List X) → AllByRecursion (λ z. is_lt (cmp (key z) (key x)) ≡ false) zs
      → insert_by key cmp x (ys ++ zs) ≡ insert_by key cmp x ys ++ zs
  insert_by-append x [] [] all = refl
  insert_by-append x [] (z ∷ zs) all = rw all.0 refl
  insert_by-append x (y ∷ ys) zs all =
      rw (insert_by-append x ys zs all)
      (elim (is_lt (cmp (key y) (key x))) as (λ b. cond b (y ∷ insert_by key cmp x ys ++ zs) (x ∷ y ∷ ys ++ zs)
      ≡ cond b (y ∷ insert_by key cmp x ys) (x ∷ y ∷ ys) ++ zs) [
        | true ↦ refl
        | false ↦ refl
      ])

module _ {X K : Type 0} (key : X → K) {cmp : K → K → Ordering} (o : IsTotalOrder cmp) where
  -- if no item of `ys` is less than one of `xs`, the two lists can be sorted separately
  pub sorted_by-append : (xs ys : List X)
      → AllByRecursion (λ x. AllByRecursion (λ y. is_lt (cmp (key y) (key x)) ≡ false) ys) xs
      → sorted_by key cmp (xs ++ ys) ≡ sorted_by key cmp xs ++ sorted_by key cmp ys
  sorted_by-append [] ys all = refl
  sorted_by-append (x ∷ xs) ys all =
      ap (insert_by key cmp x) (sorted_by-append xs ys all.1)
      ∙ insert_by-append key cmp x (sorted_by key cmp xs) (sorted_by key cmp ys)
      (All-sorted_by key o (λ y. is_lt (cmp (key y) (key x)) ≡ false) ys all.0)

  -- lists that have the same items for each key, in the same order, are sorted to the same list
  pub sorted_by-stable : (xs ys : List X) → IsStableByKey key cmp xs ys → sorted_by key cmp ys ≡ sorted_by key cmp xs
  sorted_by-stable xs ys stable = stably_sorted key o xs (sorted_by key cmp ys) (sorted-sorted_by key o ys)
      (λ a. stable-sorted_by key o ys a ∙ stable a)

  pub stable_append : (xs xs' ys ys' : List X) → IsStableByKey key cmp xs xs' → IsStableByKey key cmp ys ys'
      → IsStableByKey key cmp (xs ++ ys) (xs' ++ ys')
  stable_append xs xs' ys ys' h k a =
      filter-append (ties (λ x y. is_lt (cmp (key x) (key y))) a) xs' ys'
      ∙ (λ i. h a i ++ k a i)
      ∙ sym (filter-append (ties (λ x y. is_lt (cmp (key x) (key y))) a) xs ys)

-- a function that keeps the order of keys commutes with the sort
module _ {X Y K L : Type 0} (key : X → K) (cmp : K → K → Ordering) (key' : Y → L) (cmp' : L → L → Ordering)
    (change : X → Y)
    (kept : (x y : X) → is_lt (cmp' (key' (change x)) (key' (change y))) ≡ is_lt (cmp (key x) (key y))) where
  insert_by-change : (x : X) (ys : List X)
      → insert_by key' cmp' (change x) (map change ys) ≡ map change (insert_by key cmp x ys)
  insert_by-change x [] = refl
  insert_by-change x (y ∷ ys) =
      rw (kept y x, insert_by-change x ys)
      (elim (is_lt (cmp (key y) (key x))) as (λ b.
      cond b (change y ∷ map change (insert_by key cmp x ys)) (change x ∷ change y ∷ map change ys)
      ≡ map change (cond b (y ∷ insert_by key cmp x ys) (x ∷ y ∷ ys))) [
        | true ↦ refl
        | false ↦ refl
      ])

  pub sorted_by-change : (xs : List X) → sorted_by key' cmp' (map change xs) ≡ map change (sorted_by key cmp xs)
  sorted_by-change [] = refl
  sorted_by-change (x ∷ xs) =
      ap (insert_by key' cmp' (change x)) (sorted_by-change xs) ∙ insert_by-change x (sorted_by key cmp xs)

-- If two lists have the same keys in the same order, one is sorted if the other is.

module _ {X K : Type 0} (key : X → K) (lt : K → K → Bool) where
  Rises-keys : (xs : List X) → Rises (λ x y. lt (key x) (key y)) xs → Rises lt (map key xs)
  Rises-keys [] up = tt
  Rises-keys (x ∷ xs) up = (All-map (λ k. lt k (key x) ≡ false) key xs up.0, Rises-keys xs up.1)

  Rises-from_keys : (xs : List X) → Rises lt (map key xs) → Rises (λ x y. lt (key x) (key y)) xs
  Rises-from_keys [] up = tt
  Rises-from_keys (x ∷ xs) up = (All-unmapped (λ k. lt k (key x) ≡ false) key xs up.0, Rises-from_keys xs up.1)

pub sorted-from_keys : {X K : Type 0} (key : X → K) (cmp : K → K → Ordering) (xs : List X)
    → Rises (λ j k. is_lt (cmp j k)) (map key xs) → IsSortedByKey key cmp xs
sorted-from_keys key cmp xs up =
    sorted_from_Rises (λ x y. is_lt (cmp (key x) (key y))) xs (Rises-from_keys key (λ j k. is_lt (cmp j k)) xs up)

pub sorted-of_keys : {X K : Type 0} (key : X → K) {cmp : K → K → Ordering} (o : IsTotalOrder cmp) (xs ys : List X)
    → map key xs ≡ map key ys
    → IsSortedByKey key cmp ys → IsSortedByKey key cmp xs
sorted-of_keys key {cmp} o xs ys same up =
    sorted-from_keys key cmp xs
    (subst (Rises (λ j k. is_lt (cmp j k))) (sym same)
    (Rises-keys key (λ j k. is_lt (cmp j k)) ys
    (Rises-from_sorted (λ x y. is_lt (cmp (key x) (key y))) (ranks_by o key) ys up)))
