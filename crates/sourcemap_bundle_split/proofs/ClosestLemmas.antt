-- The closest item of a list, where items are left out or changed.
use Rattle.std.proofs.Common.{◌≡◌, ◌∙◌, refl, sym, ap, subst, ℕ, zero, suc, List, [], ◌∷◌, Bool, true, false, cond}
use Rattle.std.proofs.Common.{Option, Some, None, option_map, find, filter, map, slice_get}
use Rattle.std.specs.List.{AllByRecursion}
use Rattle.std.specs.Option.{option_or}
use Rattle.std.specs.Ordering.{is_lt, is_eq}
use Rattle.std.specs.declared.cmp.Ordering.{Ordering}
use Rattle.sourcemap_tokens.specs.Search.{find_last, closest_item}

-- If a filter keeps every item that passes the test, `find` has the same result in the filtered list as in the whole
-- list. If a filter keeps the item that `find_last` finds in the whole list, `find_last` finds this item in the
-- filtered list too. If `find_last` finds nothing in the whole list, `find_last` finds nothing in the filtered list.

find-filter : {X : Type 0} (test keep : X → Bool) (xs : List X) → ((x : X) → test x ≡ true → keep x ≡ true)
    → find test (filter keep xs) ≡ find test xs
find-filter test keep [] passes = refl
find-filter {X} test keep (x ∷ xs) passes = by_cases (keep x) (test x) refl refl (find-filter test keep xs passes)
  where
    by_cases : (k t : Bool) → keep x ≡ k → test x ≡ t → find test (filter keep xs) ≡ find test xs
        → find test (filter keep (x ∷ xs)) ≡ find test (x ∷ xs)
    by_cases true true k t rest = rw (k, t) refl
    by_cases true false k t rest = rw (k, t) rest
    by_cases false true k t rest = let kept : keep x ≡ true = passes x t in cc
    by_cases false false k t rest = rw (k, t) rest

find_last-filter-none : {X : Type 0} (test keep : X → Bool) (xs : List X) → find_last test xs ≡ None
    → find_last test (filter keep xs) ≡ None
find_last-filter-none test keep [] none = refl
find_last-filter-none {X} test keep (x ∷ xs) none =
    by_cases (find_last test xs) (test x) (keep x) refl refl refl (find_last-filter-none test keep xs)
  where
    by_cases : (o : Option X) (t k : Bool) → find_last test xs ≡ o → test x ≡ t → keep x ≡ k
        → (find_last test xs ≡ None → find_last test (filter keep xs) ≡ None)
        → find_last test (filter keep (x ∷ xs)) ≡ None
    by_cases None false true later t k rest = rw (k, t, rest later) refl
    by_cases None false false later t k rest = rw k (rest later)
    by_cases None true k' later t k rest = let no : Some x ≡ None = (rw (later, t) at none) in cc
    by_cases (Some y) t' k' later t k rest = let no : Some y ≡ None = (rw later at none) in cc

find_last-filter : {X : Type 0} (test keep : X → Bool) (xs : List X) (y : X) → find_last test xs ≡ Some y
    → keep y ≡ true
    → find_last test (filter keep xs) ≡ Some y
find_last-filter test keep [] y found kept = cc
find_last-filter {X} test keep (x ∷ xs) y found kept =
    by_cases (find_last test xs) (test x) (keep x) refl refl refl (λ found. find_last-filter test keep xs y found kept)
  where
    by_cases : (o : Option X) (t k : Bool) → find_last test xs ≡ o → test x ≡ t → keep x ≡ k
        → (find_last test xs ≡ Some y → find_last test (filter keep xs) ≡ Some y)
        → find_last test (filter keep (x ∷ xs)) ≡ Some y
    by_cases (Some z) t' true later t k rest =
        let same : Some z ≡ Some y = (rw later at found) in rw (k, rest (later ∙ same)) refl
    by_cases (Some z) t' false later t k rest =
        let same : Some z ≡ Some y = (rw later at found) in rw k (rest (later ∙ same))
    by_cases None true true later t k rest =
        let same : Some x ≡ Some y = (rw (later, t) at found) in
        rw (k, t, find_last-filter-none test keep xs later) same
    by_cases None true false later t k rest =
        let same : Some x ≡ Some y = (rw (later, t) at found) in
        let item : x ≡ y = cc in let lost : keep x ≡ true = rw item kept in cc
    by_cases None false k' later t k rest = let no : None ≡ Some y = (rw (later, t) at found) in cc

-- The item that a search finds is in the list.

find-among : {X : Type 0} (test : X → Bool) (xs : List X) (y : X) → find test xs ≡ Some y
    → (k : ℕ) × (slice_get xs k ≡ Some y)
find-among test [] y found = cc
find-among {X} test (x ∷ xs) y found = by_cases (test x) refl (find-among test xs y)
  where
    by_cases : (t : Bool) → test x ≡ t → (find test xs ≡ Some y → (k : ℕ) × (slice_get xs k ≡ Some y))
        → (k : ℕ) × (slice_get (x ∷ xs) k ≡ Some y)
    by_cases true t rest = (0, (rw t at found))
    by_cases false t rest = let later = rest (rw t at found) in (suc later.0, later.1)

find_last-among : {X : Type 0} (test : X → Bool) (xs : List X) (y : X) → find_last test xs ≡ Some y
    → (k : ℕ) × (slice_get xs k ≡ Some y)
find_last-among test [] y found = cc
find_last-among {X} test (x ∷ xs) y found = by_cases (find_last test xs) (test x) refl refl (find_last-among test xs y)
  where
    by_cases : (o : Option X) (t : Bool) → find_last test xs ≡ o → test x ≡ t
        → (find_last test xs ≡ Some y → (k : ℕ) × (slice_get xs k ≡ Some y)) → (k : ℕ) × (slice_get (x ∷ xs) k ≡ Some y)
    by_cases (Some z) t' later t rest =
        let same : Some z ≡ Some y = (rw later at found) in let after = rest (later ∙ same) in (suc after.0, after.1)
    by_cases None true later t rest = (0, (rw (later, t) at found))
    by_cases None false later t rest = let no : None ≡ Some y = (rw (later, t) at found) in cc

module _ {X K : Type 0} (key : X → K) (cmp : K → K → Ordering) (p : K) where
  at_p : X → Bool
  at_p x = is_eq (cmp (key x) p)

  before_p : X → Bool
  before_p x = is_lt (cmp (key x) p)

  -- the closest item stays the closest one if the filter keeps it and keeps all items at the position
  pub closest-filter : (keep : X → Bool) (xs : List X) (y : X)
      → ((x : X) → is_eq (cmp (key x) p) ≡ true → keep x ≡ true)
      → closest_item key cmp xs p ≡ Some y → keep y ≡ true → closest_item key cmp (filter keep xs) p ≡ Some y
  closest-filter keep xs y passes found kept =
      let same : find (λ x. is_eq (cmp (key x) p)) (filter keep xs) ≡ find (λ x. is_eq (cmp (key x) p)) xs =
      find-filter (λ x. is_eq (cmp (key x) p)) keep xs passes in
      by_cases (find (λ x. is_eq (cmp (key x) p)) xs) refl same
    where
      by_cases : (o : Option X) → find (λ x. is_eq (cmp (key x) p)) xs ≡ o
          → find (λ x. is_eq (cmp (key x) p)) (filter keep xs) ≡ find (λ x. is_eq (cmp (key x) p)) xs
          → closest_item key cmp (filter keep xs) p ≡ Some y
      by_cases (Some z) at same = let here : Some z ≡ Some y = (rw at at found) in rw (same, at) here
      by_cases None at same =
          let later : find_last (λ x. is_lt (cmp (key x) p)) xs ≡ Some y = (rw at at found) in
          rw (same, at) (find_last-filter (λ x. is_lt (cmp (key x) p)) keep xs y later kept)

  pub closest-among : (xs : List X) (y : X) → closest_item key cmp xs p ≡ Some y → (k : ℕ) × (slice_get xs k ≡ Some y)
  closest-among xs y found = by_cases (find (λ x. is_eq (cmp (key x) p)) xs) refl
    where
      by_cases : (o : Option X) → find (λ x. is_eq (cmp (key x) p)) xs ≡ o → (k : ℕ) × (slice_get xs k ≡ Some y)
      by_cases (Some z) at =
          let here : Some z ≡ Some y = (rw at at found) in find-among (λ x. is_eq (cmp (key x) p)) xs y (at ∙ here)
      by_cases None at = find_last-among (λ x. is_lt (cmp (key x) p)) xs y (rw at at found)

-- For each item `x` of `xs`, let `f x` pass `test'` exactly if `x` passes `test`. If `find test` finds an item `x` in
-- `xs`, `find test'` finds `f x` in `map f xs`. If `find test` finds nothing, `find test'` finds nothing. The same
-- holds for `find_last`.

find-map : {X Y : Type 0} (f : X → Y) (test : X → Bool) (test' : Y → Bool) (xs : List X)
    → AllByRecursion (λ x. test' (f x) ≡ test x) xs → find test' (map f xs) ≡ option_map f (find test xs)
find-map f test test' [] same = refl
find-map {X} {Y} f test test' (x ∷ xs) same = by_cases (test x) refl (find-map f test test' xs same.1)
  where
    by_cases : (t : Bool) → test x ≡ t → find test' (map f xs) ≡ option_map f (find test xs)
        → find test' (map f (x ∷ xs)) ≡ option_map f (find test (x ∷ xs))
    by_cases true t rest = rw (same.0, t) refl
    by_cases false t rest = rw (same.0, t) rest

option_or-map : {X Y : Type 0} (f : X → Y) (o u : Option X)
    → option_or (option_map f o) (option_map f u) ≡ option_map f (option_or o u)
option_or-map f None u = refl
option_or-map f (Some x) u = refl

find_last-map : {X Y : Type 0} (f : X → Y) (test : X → Bool) (test' : Y → Bool) (xs : List X)
    → AllByRecursion (λ x. test' (f x) ≡ test x) xs → find_last test' (map f xs) ≡ option_map f (find_last test xs)
find_last-map f test test' [] same = refl
find_last-map {X} {Y} f test test' (x ∷ xs) same =
    let rest : find_last test' (map f xs) ≡ option_map f (find_last test xs) = find_last-map f test test' xs same.1 in
    rw (rest, same.0) (ap (option_or (option_map f (find_last test xs))) (here (test x))
    ∙ option_or-map f (find_last test xs) (cond (test x) (Some x) None))
  where
    here : (t : Bool) → cond t (Some (f x)) None ≡ option_map f (cond t (Some x) None)
    here true = refl
    here false = refl

-- the changed item `f x` compares to `p'` as the item `x` compares to `p`
abbrev pub KeepsOrder : {X Y K : Type 0} → (X → Y) → (X → K) → (Y → K) → (K → K → Ordering) → K → K → X → Type 0
KeepsOrder f key key' cmp p p' x = cmp (key' (f x)) p' ≡ cmp (key x) p

orders-map : {X Y K : Type 0} (f : X → Y) (key : X → K) (key' : Y → K) (cmp : K → K → Ordering) (p p' : K)
    (test : Ordering → Bool) (xs : List X)
    → AllByRecursion (KeepsOrder f key key' cmp p p') xs
    → AllByRecursion (λ x. test (cmp (key' (f x)) p') ≡ test (cmp (key x) p)) xs
orders-map f key key' cmp p p' test [] same = tt
orders-map f key key' cmp p p' test (x ∷ xs) same = (ap test same.0, orders-map f key key' cmp p p' test xs same.1)

pub closest-map : {X Y K : Type 0} (f : X → Y) (key : X → K) (key' : Y → K) (cmp : K → K → Ordering) (p p' : K)
    (xs : List X)
    → AllByRecursion (KeepsOrder f key key' cmp p p') xs
    → closest_item key' cmp (map f xs) p' ≡ option_map f (closest_item key cmp xs p)
closest-map f key key' cmp p p' xs same =
    let at : find (λ y. is_eq (cmp (key' y) p')) (map f xs) ≡ option_map f (find (λ x. is_eq (cmp (key x) p)) xs) =
    find-map f (λ x. is_eq (cmp (key x) p)) (λ y. is_eq (cmp (key' y) p')) xs
    (orders-map f key key' cmp p p' is_eq xs same) in
    let before : find_last (λ y. is_lt (cmp (key' y) p')) (map f xs)
    ≡ option_map f (find_last (λ x. is_lt (cmp (key x) p)) xs) =
    find_last-map f (λ x. is_lt (cmp (key x) p)) (λ y. is_lt (cmp (key' y) p')) xs
    (orders-map f key key' cmp p p' is_lt xs same) in
    rw (at, before) (option_or-map f (find (λ x. is_eq (cmp (key x) p)) xs) (find_last (λ x. is_lt (cmp (key x) p)) xs))
