-- The items of a list, in whatever order and however often they occur. Two lists with the same items give the same ids
-- in increasing order (`rising`).
use Rattle.std.proofs.Common.{◌≡◌, refl, sym, ap, subst, ◌∙◌, ℕ, ◌<◌, ◌⊎◌, inl, inr, List, [], ◌∷◌, ◌++◌, map, filter, flat_map, fold, Bool, true, false, cond, ◌||◌, nat_eq, eqb-true, arith, nat_cmp, is_lt, Ordering, Less, Equal, Greater}
use Rattle.std.specs.List.{AllByRecursion, list_any}
use Rattle.std.specs.BTreeSet.{insert_key}
use Rattle.std.specs.Ordering.{match_ordering}
use Rattle.std.proofs.lemmas.Bool.{cases_Bool}
use Rattle.std.proofs.lemmas.Bool.Decides.{nat_tests}
use Rattle.sourcemap_tokens.specs.Tokens.{insert_by, sorted_by}
use Rattle.sourcemap_map_conversions.specs.FromRecord.{rising}

-- `x` is an item of the list
abbrev pub IsIn : {X : Type 0} → X → List X → Type 0
IsIn x [] = ⊥
IsIn x (y ∷ ys) = (y ≡ x) ⊎ IsIn x ys

module _ {X : Type 0} where
  pub in-left : (x : X) (xs ys : List X) → IsIn x xs → IsIn x (xs ++ ys)
  in-left x [] ys h = absurd h
  in-left x (y ∷ xs) ys (inl here) = inl here
  in-left x (y ∷ xs) ys (inr later) = inr (in-left x xs ys later)

  pub in-right : (x : X) (xs ys : List X) → IsIn x ys → IsIn x (xs ++ ys)
  in-right x [] ys h = h
  in-right x (y ∷ xs) ys h = inr (in-right x xs ys h)

  pub in-parts : (x : X) (xs ys : List X) → IsIn x (xs ++ ys) → IsIn x xs ⊎ IsIn x ys
  in-parts x [] ys h = inr h
  in-parts x (y ∷ xs) ys (inl here) = inl (inl here)
  in-parts x (y ∷ xs) ys (inr later) = elim (in-parts x xs ys later) [
    | inl front ↦ inl (inr front)
    | inr back ↦ inr back
  ]

  pub All-in : (P : X → Type 0) (x : X) (xs : List X) → AllByRecursion P xs → IsIn x xs → P x
  All-in P x [] all h = absurd h
  All-in P x (y ∷ xs) all (inl here) = subst P here all.0
  All-in P x (y ∷ xs) all (inr later) = All-in P x xs all.1 later

  pub All-from_in : (P : X → Type 0) (xs : List X) → ((x : X) → IsIn x xs → P x) → AllByRecursion P xs
  All-from_in P [] each = tt
  All-from_in P (x ∷ xs) each = (each x (inl refl), All-from_in P xs (λ y h. each y (inr h)))

module _ {X Y : Type 0} (f : X → Y) where
  pub in-map : (x : X) (xs : List X) → IsIn x xs → IsIn (f x) (map f xs)
  in-map x [] h = absurd h
  in-map x (y ∷ xs) (inl here) = inl (ap f here)
  in-map x (y ∷ xs) (inr later) = inr (in-map x xs later)

  pub in-unmapped : (y : Y) (xs : List X) → IsIn y (map f xs) → (x : X) × IsIn x xs × (f x ≡ y)
  in-unmapped y [] h = absurd h
  in-unmapped y (x ∷ xs) (inl here) = (x, inl refl, here)
  in-unmapped y (x ∷ xs) (inr later) = let found = in-unmapped y xs later in (found.0, inr found.1, found.2)

module _ {X Y : Type 0} (f : X → List Y) where
  pub in-flat_map : (y : Y) (x : X) (xs : List X) → IsIn x xs → IsIn y (f x) → IsIn y (flat_map f xs)
  in-flat_map y x [] h at = absurd h
  in-flat_map y x (z ∷ xs) (inl here) at =
      in-left y (f z) (flat_map f xs) (subst (λ (w : X). IsIn y (f w)) (sym here) at)
  in-flat_map y x (z ∷ xs) (inr later) at = in-right y (f z) (flat_map f xs) (in-flat_map y x xs later at)

  pub in-flat_mapped : (y : Y) (xs : List X) → IsIn y (flat_map f xs) → (x : X) × IsIn x xs × IsIn y (f x)
  in-flat_mapped y [] h = absurd h
  in-flat_mapped y (x ∷ xs) h = elim (in-parts y (f x) (flat_map f xs) h) [
    | inl here ↦ (x, inl refl, here)
    | inr later ↦ let found = in-flat_mapped y xs later in (found.0, inr found.1, found.2)
  ]

module _ {X : Type 0} (p : X → Bool) where
  pub in-filter : (x : X) (xs : List X) → p x ≡ true → IsIn x xs → IsIn x (filter p xs)
  in-filter x [] passes h = absurd h
  in-filter x (y ∷ xs) passes (inl here) = let passed : p y ≡ true = ap p here ∙ passes in rw passed (inl here)
  in-filter x (y ∷ xs) passes (inr later) = kept (p y) (in-filter x xs passes later)
    where
      kept : (b : Bool) → IsIn x (filter p xs) → IsIn x (cond b (y ∷ filter p xs) (filter p xs))
      kept true h = inr h
      kept false h = h

  passed-at : (x y : X) (xs : List X) (b : Bool) → p y ≡ b → (IsIn x (filter p xs) → (p x ≡ true) × IsIn x xs)
      → IsIn x (cond b (y ∷ filter p xs) (filter p xs)) → (p x ≡ true) × IsIn x (y ∷ xs)
  passed-at x y xs true passes rest (inl here) = (ap p (sym here) ∙ passes, inl here)
  passed-at x y xs true passes rest (inr later) = let h = rest later in (h.0, inr h.1)
  passed-at x y xs false passes rest later = let h = rest later in (h.0, inr h.1)

  pub in-filtered : (x : X) (xs : List X) → IsIn x (filter p xs) → (p x ≡ true) × IsIn x xs
  in-filtered x [] h = absurd h
  in-filtered x (y ∷ xs) h = passed-at x y xs (p y) refl (λ g. in-filtered x xs g) h

-- Sorted lists have the same items.

module _ {X K : Type 0} (key : X → K) (cmp : K → K → Ordering) where
  put-at : (x y z : X) (zs put : List X) (b : Bool) → (IsIn x put → (y ≡ x) ⊎ IsIn x zs)
      → IsIn x (cond b (z ∷ put) (y ∷ z ∷ zs)) → (y ≡ x) ⊎ IsIn x (z ∷ zs)
  put-at x y z zs put true rest (inl here) = inr (inl here)
  put-at x y z zs put true rest (inr later) = elim (rest later) [ inl new ↦ inl new | inr old ↦ inr (inr old) ]
  put-at x y z zs put false rest h = h

  in-inserted_by : (x y : X) (zs : List X) → IsIn x (insert_by key cmp y zs) → (y ≡ x) ⊎ IsIn x zs
  in-inserted_by x y [] h = h
  in-inserted_by x y (z ∷ zs) h =
      put-at x y z zs (insert_by key cmp y zs) (is_lt (cmp (key z) (key y))) (λ g. in-inserted_by x y zs g) h

  stays-at : (x y z : X) (zs put : List X) (b : Bool) → ((y ≡ x) ⊎ IsIn x zs → IsIn x put)
      → (y ≡ x) ⊎ IsIn x (z ∷ zs) → IsIn x (cond b (z ∷ put) (y ∷ z ∷ zs))
  stays-at x y z zs put true rest (inl new) = inr (rest (inl new))
  stays-at x y z zs put true rest (inr (inl here)) = inl here
  stays-at x y z zs put true rest (inr (inr later)) = inr (rest (inr later))
  stays-at x y z zs put false rest h = h

  in-insert_by : (x y : X) (zs : List X) → (y ≡ x) ⊎ IsIn x zs → IsIn x (insert_by key cmp y zs)
  in-insert_by x y [] h = h
  in-insert_by x y (z ∷ zs) h =
      stays-at x y z zs (insert_by key cmp y zs) (is_lt (cmp (key z) (key y))) (λ g. in-insert_by x y zs g) h

  pub in-sorted_by : (x : X) (xs : List X) → IsIn x xs → IsIn x (sorted_by key cmp xs)
  in-sorted_by x [] h = absurd h
  in-sorted_by x (y ∷ xs) (inl here) = in-insert_by x y (sorted_by key cmp xs) (inl here)
  in-sorted_by x (y ∷ xs) (inr later) = in-insert_by x y (sorted_by key cmp xs) (inr (in-sorted_by x xs later))

  pub in-unsorted : (x : X) (xs : List X) → IsIn x (sorted_by key cmp xs) → IsIn x xs
  in-unsorted x [] h = absurd h
  in-unsorted x (y ∷ xs) h = elim (in-inserted_by x y (sorted_by key cmp xs) h) [
    | inl here ↦ inl here
    | inr later ↦ inr (in-unsorted x xs later)
  ]

-- Numbers that a list has.

pub in-any : (n : ℕ) (ns : List ℕ) → list_any (nat_eq n) ns ≡ true → IsIn n ns
in-any n [] h = cc
in-any n (k ∷ ns) h = elim (cases_Bool (nat_eq n k)) [
  | inl same ↦ inl (sym (eqb-true n k same))
  | inr other ↦ inr (in-any n ns (or_later (nat_eq n k) (list_any (nat_eq n) ns) other h))
]
  where
    or_later : (a b : Bool) → a ≡ false → (a || b) ≡ true → b ≡ true
    or_later true b e h = cc
    or_later false b e h = h

same_eq : (n k : ℕ) → k ≡ n → nat_eq n k ≡ true
same_eq n k same = grind (arith, nat_tests)

pub any-in : (n : ℕ) (ns : List ℕ) → IsIn n ns → list_any (nat_eq n) ns ≡ true
any-in n [] h = absurd h
any-in n (k ∷ ns) (inl here) = ap (λ b. b || list_any (nat_eq n) ns) (same_eq n k here)
any-in n (k ∷ ns) (inr later) = ap (λ b. nat_eq n k || b) (any-in n ns later) ∙ or_true (nat_eq n k)
  where
    or_true : (a : Bool) → (a || true) ≡ true
    or_true true = refl
    or_true false = refl

-- Ids in increasing order.

equal_same : (k x : ℕ) → nat_cmp k x ≡ Equal → x ≡ k
equal_same k x e = grind (arith, nat_tests)

less_below : (k x : ℕ) → nat_cmp k x ≡ Less → k < x
less_below k x e = grind (arith, nat_tests)

greater_above : (k x : ℕ) → nat_cmp k x ≡ Greater → x < k
greater_above k x e = grind (arith, nat_tests)

in-inserted : (n k : ℕ) (ns : List ℕ) → IsIn n (insert_key nat_cmp ns k) → (k ≡ n) ⊎ IsIn n ns
in-inserted n k [] h = h
in-inserted n k (x ∷ ns) h = placed (nat_cmp k x) (λ g. in-inserted n k ns g) h
  where
    placed : (r : Ordering) → (IsIn n (insert_key nat_cmp ns k) → (k ≡ n) ⊎ IsIn n ns)
        → IsIn n (match_ordering r (k ∷ x ∷ ns) (x ∷ ns) (x ∷ insert_key nat_cmp ns k)) → (k ≡ n) ⊎ IsIn n (x ∷ ns)
    placed Less rest h = h
    placed Equal rest h = inr h
    placed Greater rest (inl here) = inr (inl here)
    placed Greater rest (inr later) = elim (rest later) [ inl new ↦ inl new | inr old ↦ inr (inr old) ]

in-insert : (n k : ℕ) (ns : List ℕ) → (k ≡ n) ⊎ IsIn n ns → IsIn n (insert_key nat_cmp ns k)
in-insert n k [] h = h
in-insert n k (x ∷ ns) h = placed (nat_cmp k x) refl (λ g. in-insert n k ns g) h
  where
    placed : (r : Ordering) → nat_cmp k x ≡ r → ((k ≡ n) ⊎ IsIn n ns → IsIn n (insert_key nat_cmp ns k))
        → (k ≡ n) ⊎ IsIn n (x ∷ ns)
        → IsIn n (match_ordering r (k ∷ x ∷ ns) (x ∷ ns) (x ∷ insert_key nat_cmp ns k))
    placed Less is rest h = h
    placed Equal is rest (inl new) = inl (equal_same k x is ∙ new)
    placed Equal is rest (inr old) = old
    placed Greater is rest (inl new) = inr (rest (inl new))
    placed Greater is rest (inr (inl here)) = inl here
    placed Greater is rest (inr (inr later)) = inr (rest (inr later))

in-folded : (n : ℕ) (start ids : List ℕ) → IsIn n (fold (insert_key nat_cmp) start ids) → IsIn n start ⊎ IsIn n ids
in-folded n start [] h = inl h
in-folded n start (k ∷ ids) h = elim (in-folded n (insert_key nat_cmp start k) ids h) [
  | inl early ↦ elim (in-inserted n k start early) [ inl here ↦ inr (inl here) | inr old ↦ inl old ]
  | inr later ↦ inr (inr later)
]

in-fold : (n : ℕ) (start ids : List ℕ) → IsIn n start ⊎ IsIn n ids → IsIn n (fold (insert_key nat_cmp) start ids)
in-fold n start [] (inl h) = h
in-fold n start [] (inr h) = absurd h
in-fold n start (k ∷ ids) (inl h) = in-fold n (insert_key nat_cmp start k) ids (inl (in-insert n k start (inr h)))
in-fold n start (k ∷ ids) (inr (inl here)) =
    in-fold n (insert_key nat_cmp start k) ids (inl (in-insert n k start (inl here)))
in-fold n start (k ∷ ids) (inr (inr later)) = in-fold n (insert_key nat_cmp start k) ids (inr later)

pub in-rising : (n : ℕ) (ids : List ℕ) → IsIn n ids → IsIn n (rising ids)
in-rising n ids h = in-fold n [] ids (inr h)

pub in-risen : (n : ℕ) (ids : List ℕ) → IsIn n (rising ids) → IsIn n ids
in-risen n ids h = elim (in-folded n [] ids h) [ inl none ↦ absurd none | inr is ↦ is ]

-- each number is above the numbers before it
abbrev Climbs : List ℕ → Type 0
Climbs [] = Unit {0}
Climbs (x ∷ xs) = AllByRecursion (λ y. x < y) xs × Climbs xs

all-insert : (P : ℕ → Type 0) (k : ℕ) (ns : List ℕ) → P k → AllByRecursion P ns
    → AllByRecursion P (insert_key nat_cmp ns k)
all-insert P k [] here all = (here, tt)
all-insert P k (x ∷ ns) here all = placed (nat_cmp k x) (all-insert P k ns here all.1)
  where
    placed : (r : Ordering) → AllByRecursion P (insert_key nat_cmp ns k)
        → AllByRecursion P (match_ordering r (k ∷ x ∷ ns) (x ∷ ns) (x ∷ insert_key nat_cmp ns k))
    placed Less rest = (here, all)
    placed Equal rest = all
    placed Greater rest = (all.0, rest)

all-above : (k x : ℕ) (ns : List ℕ) → k < x → AllByRecursion (λ y. x < y) ns → AllByRecursion (λ y. k < y) ns
all-above k x [] less all = tt
all-above k x (n ∷ ns) less all = (let above : x < n = all.0 in omega arith, all-above k x ns less all.1)

climbs-insert : (k : ℕ) (ns : List ℕ) → Climbs ns → Climbs (insert_key nat_cmp ns k)
climbs-insert k [] up = (tt, tt)
climbs-insert k (x ∷ ns) up = placed (nat_cmp k x) refl (climbs-insert k ns up.1)
  where
    placed : (r : Ordering) → nat_cmp k x ≡ r → Climbs (insert_key nat_cmp ns k)
        → Climbs (match_ordering r (k ∷ x ∷ ns) (x ∷ ns) (x ∷ insert_key nat_cmp ns k))
    placed Less is rest = ((less_below k x is, all-above k x ns (less_below k x is) up.0), up)
    placed Equal is rest = up
    placed Greater is rest = (all-insert (λ y. x < y) k ns (greater_above k x is) up.0, rest)

climbs-fold : (start ids : List ℕ) → Climbs start → Climbs (fold (insert_key nat_cmp) start ids)
climbs-fold start [] up = up
climbs-fold start (k ∷ ids) up = climbs-fold (insert_key nat_cmp start k) ids (climbs-insert k start up)

tail-in : (x y n : ℕ) (xs ys : List ℕ) → x ≡ y → AllByRecursion (λ z. x < z) xs → IsIn n xs → IsIn n (y ∷ ys)
    → IsIn n ys
tail-in x y n xs ys same above h (inl here) = let less : x < n = All-in (λ z. x < z) n xs above h in
    absurd (omega arith)
tail-in x y n xs ys same above h (inr later) = later

same-heads : (x y : ℕ) (xs ys : List ℕ) → AllByRecursion (λ z. x < z) xs → AllByRecursion (λ z. y < z) ys
    → IsIn x (y ∷ ys) → IsIn y (x ∷ xs) → x ≡ y
same-heads x y xs ys up up' (inl here) back = sym here
same-heads x y xs ys up up' (inr there) (inl here) = here
same-heads x y xs ys up up' (inr there) (inr back) =
    let less : y < x = All-in (λ z. y < z) x ys up' there in
    let more : x < y = All-in (λ z. x < z) y xs up back in
    absurd (omega arith)

same-climbs : (xs ys : List ℕ) → Climbs xs → Climbs ys → ((n : ℕ) → IsIn n xs → IsIn n ys)
    → ((n : ℕ) → IsIn n ys → IsIn n xs) → xs ≡ ys
same-climbs [] [] up up' there back = refl
same-climbs [] (y ∷ ys) up up' there back = absurd (back y (inl refl))
same-climbs (x ∷ xs) [] up up' there back = absurd (there x (inl refl))
same-climbs (x ∷ xs) (y ∷ ys) up up' there back =
    let heads : x ≡ y = same-heads x y xs ys up.0 up'.0 (there x (inl refl)) (back y (inl refl)) in
    let tails : xs ≡ ys = same-climbs xs ys up.1 up'.1 (λ n h. tail-in x y n xs ys heads up.0 h (there n (inr h)))
    (λ n h. tail-in y x n ys xs (sym heads) up'.0 h (back n (inr h))) in
    λ i. heads i ∷ tails i

pub same-rising : (ids ids' : List ℕ) → ((n : ℕ) → IsIn n ids → IsIn n ids')
    → ((n : ℕ) → IsIn n ids' → IsIn n ids) → rising ids ≡ rising ids'
same-rising ids ids' there back =
    same-climbs (rising ids) (rising ids') (climbs-fold [] ids tt) (climbs-fold [] ids' tt)
    (λ n h. in-rising n ids' (there n (in-risen n ids h))) (λ n h. in-rising n ids (back n (in-risen n ids' h)))
