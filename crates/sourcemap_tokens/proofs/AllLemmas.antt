-- Facts about a property of all items of a list, also for lists made with `++`, `map` or `flat_map`.
use Rattle.std.proofs.Common.{◌≡◌, subst, ℕ, zero, suc, List, [], ◌∷◌, ◌++◌, map, flat_map, Some, slice_get}
use Rattle.std.specs.List.{AllByRecursion}

module _ {X : Type 0} (P : X → Type 0) where
  pub All-of : ((x : X) → P x) → (xs : List X) → AllByRecursion P xs
  All-of each [] = tt
  All-of each (x ∷ xs) = (each x, All-of each xs)

  pub All-at : (xs : List X) (k : ℕ) (x : X) → slice_get xs k ≡ Some x → AllByRecursion P xs → P x
  All-at [] k x e all = cc
  All-at (y ∷ ys) zero x e all = let same : y ≡ x = cc in subst P same all.0
  All-at (y ∷ ys) (suc k) x e all = All-at ys k x e all.1

  pub All-append : (xs ys : List X) → AllByRecursion P xs → AllByRecursion P ys → AllByRecursion P (xs ++ ys)
  All-append [] ys h k = k
  All-append (x ∷ xs) ys h k = (h.0, All-append xs ys h.1 k)

  pub All-parts : (xs ys : List X) → AllByRecursion P (xs ++ ys) → AllByRecursion P xs × AllByRecursion P ys
  All-parts [] ys all = (tt, all)
  All-parts (x ∷ xs) ys all = let later = All-parts xs ys all.1 in ((all.0, later.0), later.1)

module _ {X : Type 0} (P Q : X → Type 0) where
  pub All-weaker : ((x : X) → P x → Q x) → (xs : List X) → AllByRecursion P xs → AllByRecursion Q xs
  All-weaker weaker [] all = tt
  All-weaker weaker (x ∷ xs) all = (weaker x all.0, All-weaker weaker xs all.1)

  pub All-both : (xs : List X) → AllByRecursion P xs → AllByRecursion Q xs → AllByRecursion (λ x. P x × Q x) xs
  All-both [] ps qs = tt
  All-both (x ∷ xs) ps qs = ((ps.0, qs.0), All-both xs ps.1 qs.1)

module _ {X Y : Type 0} (P : Y → Type 0) (f : X → Y) where
  pub All-map : (xs : List X) → AllByRecursion (λ x. P (f x)) xs → AllByRecursion P (map f xs)
  All-map [] all = tt
  All-map (x ∷ xs) all = (all.0, All-map xs all.1)

  pub All-unmapped : (xs : List X) → AllByRecursion P (map f xs) → AllByRecursion (λ x. P (f x)) xs
  All-unmapped [] all = tt
  All-unmapped (x ∷ xs) all = (all.0, All-unmapped xs all.1)

module _ {X Y : Type 0} (P : Y → Type 0) (f : X → List Y) where
  pub All-flat_map : (xs : List X) → AllByRecursion (λ x. AllByRecursion P (f x)) xs → AllByRecursion P (flat_map f xs)
  All-flat_map [] all = tt
  All-flat_map (x ∷ xs) all = All-append P (f x) (flat_map f xs) all.0 (All-flat_map xs all.1)

  pub All-from_flat_map : (xs : List X) → AllByRecursion P (flat_map f xs)
      → AllByRecursion (λ x. AllByRecursion P (f x)) xs
  All-from_flat_map [] all = tt
  All-from_flat_map (x ∷ xs) all =
      let parts = All-parts P (f x) (flat_map f xs) all in
      (parts.0, All-from_flat_map xs parts.1)
