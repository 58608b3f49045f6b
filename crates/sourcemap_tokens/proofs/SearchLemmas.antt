-- The index at which a search ends determines the closest item.
use Rattle.std.proofs.Common.{◌≡◌, refl, sym, ap, subst, ◌∙◌, ℕ, zero, suc, ◌+◌, ◌-◌, ◌<◌, ◌≤◌, ◌==◌, List, [], ◌∷◌}
use Rattle.std.proofs.Common.{◌⊎◌}
use Rattle.std.proofs.Common.{length, get_or, Bool, true, false, cond, Some, None, Option, find, map, option_map}
use Rattle.std.proofs.Common.{slice_get, IfSome, IsSortedByKey, arith, inl, inr, zero-add}
use Rattle.std.specs.List.{enumerate_from, AllByRecursion}
use Rattle.std.specs.Option.{option_or}
use Rattle.std.specs.Cmp.{IsTotalOrder}
use Rattle.std.specs.Ordering.{is_lt, is_le, is_eq, ordering_index}
use Rattle.std.specs.List.Sorted.{IsNonDecreasingBy}
use Rattle.std.specs.declared.cmp.Ordering.{Ordering}
use Rattle.std.specs.declared.cmp.Ordering.TheVariants.{Less, Equal, Greater}
use Rattle.std.proofs.lemmas.Bool.{cases_lt}
use Rattle.std.proofs.lemmas.Cmp.{is_lt_index, is_eq_index}
use Rattle.std.proofs.lemmas.List.FromFn.{length-enumerate_from, get_or-enumerate_from}
use Rattle.std.proofs.lemmas.List.{get_or_default}
use Rattle.std.proofs.lemmas.List.Elements.{recursion_from_All}
use Rattle.std.proofs.lemmas.Option.{slice_get-get_or}
use Rattle.std.proofs.lemmas.List.Recursion.{found_at, found_nowhere}
use Rattle.std.proofs.lemmas.List.Sorted.{searchable_from_sorted}
use Rattle.sourcemap_tokens.specs.Search.{find_last, closest_item, closest}

pub cases_Option : {X : Type 0} (o : Option X) → (o ≡ None) ⊎ ((x : X) × (o ≡ Some x))
cases_Option None = inl refl
cases_Option (Some x) = inr (x, refl)

-- If `low` is not 0, the key of the item at index `low - 1` is before `p`. If the list has an item at index `high`, the
-- key of this item is not before `p`
pub record IsBracket {X K : Type 0} (key : X → K) (cmp : K → K → Ordering) (xs : List X) (p : K)
    (low high : ℕ) : Type 0 where
  pub below : (d : X) → 0 < low → is_lt (cmp (key (get_or xs (low - 1) d)) p) ≡ true
  pub above : (d : X) → high < length xs → is_lt (cmp (key (get_or xs high d)) p) ≡ false

-- the item at index n, if any, does not have key p
abbrev pub IsApart : {X K : Type 0} → (X → K) → (K → K → Ordering) → List X → K → ℕ → Type 0
IsApart {X} key cmp xs p n = (d : X) → n < length xs → is_eq (cmp (key (get_or xs n d)) p) ≡ false

find_last-none : {X : Type 0} (t : X → Bool) (xs : List X) (d : X)
    → ((k : ℕ) → k < length xs → t (get_or xs k d) ≡ false) → find_last t xs ≡ None
find_last-none t [] d fails = refl
find_last-none {X} t (x ∷ xs) d fails =
    let here : t x ≡ false = fails 0 (omega arith) in
    let later : find_last t xs ≡ None = find_last-none t xs d (λ k l. fails (suc k) (omega arith)) in
    rw (later, here)

find_last-at : {X : Type 0} (t : X → Bool) (xs : List X) (n : ℕ) (d : X) → n < length xs → t (get_or xs n d) ≡ true
    → ((k : ℕ) → n < k → k < length xs → t (get_or xs k d) ≡ false) → find_last t xs ≡ Some (get_or xs n d)
find_last-at t [] n d l passes fails = absurd (omega arith)
find_last-at t (x ∷ xs) zero d l passes fails =
    let later : find_last t xs ≡ None = find_last-none t xs d (λ k b. fails (suc k) (omega arith) (omega arith)) in
    rw (later, passes)
find_last-at t (x ∷ xs) (suc n) d l passes fails =
    let later : find_last t xs ≡ Some (get_or xs n d) =
    find_last-at t xs n d (omega arith) passes (λ k a b. fails (suc k) (omega arith) (omega arith)) in
    rw later

rank-less : (o : Ordering) → is_lt o ≡ true → ordering_index o ≡ 0
rank-less Less e = refl
rank-less Equal e = cc
rank-less Greater e = cc

rank-not_less : (o : Ordering) → is_lt o ≡ false → 1 ≤ ordering_index o
rank-not_less Less e = cc
rank-not_less Equal e = omega arith
rank-not_less Greater e = omega arith

rank-greater : (o : Ordering) → is_lt o ≡ false → is_eq o ≡ false → 2 ≤ ordering_index o
rank-greater Less e f = cc
rank-greater Equal e f = cc
rank-greater Greater e f = omega arith

not_equal-first : (o : Ordering) → ordering_index o ≤ 0 → is_eq o ≡ false
not_equal-first Less l = refl
not_equal-first Equal l = absurd (omega arith)
not_equal-first Greater l = refl

not_less-later : (o : Ordering) → 1 ≤ ordering_index o → is_lt o ≡ false
not_less-later Less l = absurd (omega arith)
not_less-later Equal l = refl
not_less-later Greater l = refl

not_equal-later : (o : Ordering) → 2 ≤ ordering_index o → is_eq o ≡ false
not_equal-later Less l = refl
not_equal-later Equal l = absurd (omega arith)
not_equal-later Greater l = refl

module _ {X K : Type 0} {cmp : K → K → Ordering} (o : IsTotalOrder cmp) (key : X → K) (xs : List X) (p : K) (n : ℕ)
    (sorted : IsSortedByKey key cmp xs) (b : IsBracket key cmp xs p n n) where
  rank : X → ℕ
  rank x = ordering_index (cmp (key x) p)

  rises : IsNonDecreasingBy (λ x. ordering_index (cmp (key x) p)) xs
  rises = searchable_from_sorted o key xs p sorted

  low_rank : n ≤ length xs → (k : ℕ) (d : X) → k < n → ordering_index (cmp (key (get_or xs k d)) p) ≤ 0
  low_rank within k d l =
      let top : ordering_index (cmp (key (get_or xs (n - 1) d)) p) ≡ 0 = rank-less _ (b.below d (omega arith)) in
      let up = rises k (n - 1) d (omega arith) (omega arith) in
      omega arith

  high_rank : (k : ℕ) (d : X) → n ≤ k → k < length xs → 1 ≤ ordering_index (cmp (key (get_or xs k d)) p)
  high_rank k d l within =
      let here : 1 ≤ ordering_index (cmp (key (get_or xs n d)) p) = rank-not_less _ (b.above d (omega arith)) in
      let up = rises n k d (omega arith) (omega arith) in
      omega arith

  higher_rank : IsApart key cmp xs p n → (k : ℕ) (d : X) → n ≤ k → k < length xs
      → 2 ≤ ordering_index (cmp (key (get_or xs k d)) p)
  higher_rank apart k d l within =
      let here : 2 ≤ ordering_index (cmp (key (get_or xs n d)) p) =
      rank-greater _ (b.above d (omega arith)) (apart d (omega arith)) in
      let up = rises n k d (omega arith) (omega arith) in
      omega arith

  nowhere : n ≤ length xs → (d : X) → IsApart key cmp xs p n → find (λ x. is_eq (cmp (key x) p)) xs ≡ None
  nowhere within d apart = found_nowhere (find (λ x. is_eq (cmp (key x) p))) (λ x. is_eq
      (cmp (key x) p)) Some None refl (λ _ _. refl) xs d (λ k l. elim (cases_lt k n) [
        | inl low ↦ not_equal-first _ (low_rank within k d low)
        | inr high ↦ not_equal-later _ (higher_rank apart k d high l)
      ])

  pub closest_item-hit : (d : X) → n < length xs → is_eq (cmp (key (get_or xs n d)) p) ≡ true
      → closest_item key cmp xs p ≡ Some (get_or xs n d)
  closest_item-hit d l here =
      let hit : find (λ x. is_eq (cmp (key x) p)) xs ≡ Some (get_or xs n d) =
      found_at (find (λ x. is_eq (cmp (key x) p))) (λ x. is_eq (cmp (key x) p)) Some None refl (λ _ _. refl) xs n d l
      (λ k low. not_equal-first _ (low_rank (omega arith) k d low)) here in
      rw hit

  pub closest_item-miss : (d : X) → 0 < n → n ≤ length xs → IsApart key cmp xs p n
      → closest_item key cmp xs p ≡ Some (get_or xs (n - 1) d)
  closest_item-miss d some within apart =
      let miss = nowhere within d apart in
      let last : find_last (λ x. is_lt (cmp (key x) p)) xs ≡ Some (get_or xs (n - 1) d) =
      find_last-at (λ x. is_lt (cmp (key x) p)) xs (n - 1) d (omega arith) (b.below d some)
      (λ k after l. not_less-later _ (high_rank k d (omega arith) l)) in
      rw (miss, last)

  pub closest_item-none : (d : X) → n ≡ 0 → IsApart key cmp xs p n → closest_item key cmp xs p ≡ None
  closest_item-none d none apart =
      let miss = nowhere (omega arith) d apart in
      let last : find_last (λ x. is_lt (cmp (key x) p)) xs ≡ None =
      find_last-none (λ x. is_lt (cmp (key x) p)) xs d (λ k l. not_less-later _ (high_rank k d (omega arith) l)) in
      rw (miss, last)

-- entry k of the list with indices is the index k and the item at k
entry-at : {X : Type 0} (xs : List X) (k : ℕ) (e : ℕ × X) → k < length xs
    → get_or (enumerate_from 0 xs) k e ≡ (k, get_or xs k e.1)
entry-at xs k e l = get_or-enumerate_from 0 xs k e l ∙ ap (λ i. (i, get_or xs k e.1)) (zero-add k)

entry-item : {X : Type 0} (xs : List X) (k : ℕ) (e : ℕ × X) → k < length xs
    → (get_or (enumerate_from 0 xs) k e).1 ≡ get_or xs k e.1
entry-item xs k e l = ap (λ w. w.1) (entry-at xs k e l)

module _ {X K : Type 0} {cmp : K → K → Ordering} (o : IsTotalOrder cmp) (key : X → K) (xs : List X) (p : K) (n : ℕ)
    (sorted : IsSortedByKey key cmp xs) (b : IsBracket key cmp xs p n n) where
  pub entries_sorted : IsSortedByKey (λ (e : ℕ × X). key e.1) cmp (enumerate_from 0 xs)
  entries_sorted k d l m =
      let many = length-enumerate_from 0 xs in
      let up = sorted k d.1 (omega arith) (omega arith) in
      rw (entry-item xs (k + 1) d (omega arith), entry-item xs k d (omega arith)) up

  pub entries_bracket : n ≤ length xs → IsBracket (λ (e : ℕ × X). key e.1) cmp (enumerate_from 0 xs) p n n
  entries_bracket within = record {
    below = λ d l. rw (entry-item xs (n - 1) d (omega arith)) (b.below d.1 l);
    above = λ d l. let many = length-enumerate_from 0 xs in
        rw (entry-item xs n d (omega arith)) (b.above d.1 (omega arith));
  }

  pub entries_apart : IsApart key cmp xs p n → (d : ℕ × X) → n < length (enumerate_from 0 xs)
      → is_eq (cmp (key (get_or (enumerate_from 0 xs) n d).1) p) ≡ false
  entries_apart apart d l =
      let many = length-enumerate_from 0 xs in
      rw (entry-item xs n d (omega arith)) (apart d.1 (omega arith))

  -- if the search ends at index `n` and the item `x` at this index has key `p`, then `x` is the closest item
  pub closest-hit : (x : X) → n < length xs → x ≡ get_or xs n x → is_eq (cmp (key x) p) ≡ true
      → Some (n, x) ≡ closest key cmp xs p
  unfolding closest
  closest-hit x l read here =
      let many = length-enumerate_from 0 xs in
      let entry : get_or (enumerate_from 0 xs) n (0, x) ≡ (n, x) =
      entry-at xs n (0, x) l ∙ ap (λ y. (n, y)) (sym read) in
      let hit = closest_item-hit o (λ (e : ℕ × X). key e.1) (enumerate_from 0 xs) p n entries_sorted (entries_bracket
      (omega arith)) (0, x) (omega arith) (rw entry here) in
      sym (hit ∙ ap Some entry)

  -- if the search ends at an index `n` above 0 and no item at `n` has key `p`, the item `x` at `n - 1` is the closest
  pub closest-miss : (x : X) → 0 < n → n ≤ length xs → x ≡ get_or xs (n - 1) x → IsApart key cmp xs p n
      → Some (n - 1, x) ≡ closest key cmp xs p
  unfolding closest
  closest-miss x some within read apart =
      let many = length-enumerate_from 0 xs in
      let entry : get_or (enumerate_from 0 xs) (n - 1) (0, x) ≡ (n - 1, x) =
      entry-at xs (n - 1) (0, x) (omega arith) ∙ ap (λ y. (n - 1, y)) (sym read) in
      let miss = closest_item-miss o (λ (e : ℕ × X). key e.1) (enumerate_from 0 xs) p n entries_sorted
      (entries_bracket within) (0, x) some (omega arith) (entries_apart apart) in
      sym (miss ∙ ap Some entry)

-- if the search ends at index 0 and no item at index 0 has key `p`, there is no closest item
none_at_front : {X K : Type 0} {cmp : K → K → Ordering} (o : IsTotalOrder cmp) (key : X → K) (xs : List X) (p : K)
    → IsSortedByKey key cmp xs → IsBracket key cmp xs p 0 0 → IsApart key cmp xs p 0 → None ≡ closest key cmp xs p
unfolding closest
none_at_front o key [] p sorted b apart = refl
none_at_front {X} o key (x ∷ xs) p sorted b apart =
    sym (closest_item-none o (λ (e : ℕ × X). key e.1) (enumerate_from 0 (x ∷ xs)) p 0
    (entries_sorted o key (x ∷ xs) p 0 sorted b) (entries_bracket o key (x ∷ xs) p 0 sorted b (omega arith)) (0, x) refl
    (entries_apart o key (x ∷ xs) p 0 sorted b apart))

pub closest-none : {X K : Type 0} {cmp : K → K → Ordering} (o : IsTotalOrder cmp) (key : X → K) (xs : List X)
    (p : K) (n : ℕ) → IsSortedByKey key cmp xs → IsBracket key cmp xs p n n → n ≡ 0 → IsApart key cmp xs p n
    → None ≡ closest key cmp xs p
closest-none {cmp = cmp} o key xs p n sorted b front apart =
    none_at_front o key xs p sorted (subst (λ m. IsBracket key cmp xs p m m) front b)
    (subst (IsApart key cmp xs p) front apart)

module _ {X K : Type 0} (key : X → K) (cmp : K → K → Ordering) (xs : List X) (p : K) where
  -- the search begins between 0 and the length of the list
  pub bracket-all : IsBracket key cmp xs p 0 (length xs)
  bracket-all = record { below = λ d l. absurd (omega arith); above = λ d l. absurd (omega arith) }

  -- if the key of the item `x` at index `k` is before `p`, the search continues between `k + 1` and `high`
  pub bracket-up : (low high k : ℕ) (x : X) → IsBracket key cmp xs p low high → k < length xs → x ≡ get_or xs k x
      → is_lt (cmp (key x) p) ≡ true → IsBracket key cmp xs p (k + 1) high
  bracket-up low high k x b l read less = record {
    below = λ d m.
        let same : x ≡ get_or xs k d = read ∙ get_or_default xs k x d l in
        let here : is_lt (cmp (key (get_or xs k d)) p) ≡ true = subst (λ y. is_lt (cmp (key y) p) ≡ true) same less in
        let back : k + 1 - 1 ≡ k = omega arith in
        rw back here;
    above = b.above;
  }

  -- if the key of the item `x` at index `k` is not before `p`, the search continues between `low` and `k`
  pub bracket-down : (low high k : ℕ) (x : X) → IsBracket key cmp xs p low high → k < length xs → x ≡ get_or xs k x
      → is_lt (cmp (key x) p) ≡ false → IsBracket key cmp xs p low k
  bracket-down low high k x b l read not_less = record {
    below = b.below;
    above = λ d m. subst (λ y. is_lt (cmp (key y) p) ≡ false) (read ∙ get_or_default xs k x d l) not_less;
  }

-- if the search ends at index `n`, at an item `x` that does not have key `p`, `IsApart` holds at `n`
pub apart_from_read : {X K : Type 0} (key : X → K) (cmp : K → K → Ordering) (xs : List X) (p : K) (n : ℕ) (x : X)
    → x ≡ get_or xs n x → is_eq (cmp (key x) p) ≡ false → IsApart key cmp xs p n
apart_from_read key cmp xs p n x read other d l =
    subst (λ y. is_eq (cmp (key y) p) ≡ false) (read ∙ get_or_default xs n x d l) other

-- if the search ends at an index `n` after the last item, `IsApart` holds at `n`
pub apart_at_end : {X K : Type 0} (key : X → K) (cmp : K → K → Ordering) (xs : List X) (p : K) (n : ℕ) → length xs ≤ n
    → IsApart key cmp xs p n
apart_at_end key cmp xs p n past d l = absurd (omega arith)

pub bracket_closed : {X K : Type 0} (key : X → K) (cmp : K → K → Ordering) (xs : List X) (p : K) (low high : ℕ)
    → IsBracket key cmp xs p low high → high ≡ low → IsBracket key cmp xs p low low
bracket_closed key cmp xs p low high b ends = subst (IsBracket key cmp xs p low) ends b

-- a closure returned the key `k` of `x`. If a test of `cmp k p` gives `b`, the same test of `cmp (key x) p` gives `b`
module _ {X K : Type 0} (key : X → K) (cmp : K → K → Ordering) (x : X) (k p : K) (r : Ordering) (t b : Bool) where
  pub tested_less : k ≡ key x → r ≡ cmp k p → t ≡ (ordering_index r == 0) → t ≡ b → is_lt (cmp (key x) p) ≡ b
  tested_less given compared tested candidate =
      let same : r ≡ cmp (key x) p = compared ∙ ap (λ q. cmp q p) given in
      ap is_lt (sym same) ∙ is_lt_index r ∙ sym tested ∙ candidate

  pub tested_equal : k ≡ key x → r ≡ cmp k p → t ≡ (ordering_index r == 1) → t ≡ b → is_eq (cmp (key x) p) ≡ b
  tested_equal given compared tested candidate =
      let same : r ≡ cmp (key x) p = compared ∙ ap (λ q. cmp q p) given in
      ap is_eq (sym same) ∙ is_eq_index r ∙ sym tested ∙ candidate

pub is_le-less : (o : Ordering) → is_lt o ≡ true → is_le o ≡ true
is_le-less Less e = refl
is_le-less Equal e = refl
is_le-less Greater e = cc

pub is_le-equal : (o : Ordering) → is_eq o ≡ true → is_le o ≡ true
is_le-equal Less e = refl
is_le-equal Equal e = refl
is_le-equal Greater e = cc

-- the closest item has each property that all items have
module _ {X K : Type 0} (key : X → K) (cmp : K → K → Ordering) (P : X → Type 0) where
  found_has : (t : X → Bool) (xs : List X) → AllByRecursion P xs → IfSome (find t xs) P
  found_has t [] all = tt
  found_has t (x ∷ xs) all = elim (t x) as (λ b. IfSome (cond b (Some x) (find t xs)) P) [
    | true ↦ all.0
    | false ↦ found_has t xs all.1
  ]

  either_has : (o q : Option X) → IfSome o P → IfSome q P → IfSome (option_or o q) P
  either_has None q first second = second
  either_has (Some x) q first second = first

  last_has : (t : X → Bool) (xs : List X) → AllByRecursion P xs → IfSome (find_last t xs) P
  last_has t [] all = tt
  last_has t (x ∷ xs) all =
      either_has (find_last t xs) (cond (t x) (Some x) None) (last_has t xs all.1)
      (elim (t x) as (λ b. IfSome (cond b (Some x) None) P) [ true ↦ all.0 | false ↦ tt ])

  pub closest_item-has : (xs : List X) (p : K) → AllByRecursion P xs → IfSome (closest_item key cmp xs p) P
  closest_item-has xs p all = either_has (find (λ x. is_eq (cmp (key x) p)) xs) (find_last
      (λ x. is_lt (cmp (key x) p)) xs) (found_has _ xs all) (last_has _ xs all)

if_some_weaker : {X : Type 0} {P Q : X → Type 0} → ((x : X) → P x → Q x) → (o : Option X) → IfSome o P → IfSome o Q
if_some_weaker weaker None has = tt
if_some_weaker weaker (Some x) has = weaker x has

-- if `find` or `find_last` finds an item, the item passes the test
module _ {X : Type 0} (test : X → Bool) where
  find-passes : (xs : List X) → IfSome (find test xs) (λ x. test x ≡ true)
  find-passes [] = tt
  find-passes (x ∷ xs) = by_test (find-passes xs) (test x) refl
    where
      by_test : IfSome (find test xs) (λ x. test x ≡ true) → (b : Bool) → test x ≡ b
          → IfSome (cond b (Some x) (find test xs)) (λ x. test x ≡ true)
      by_test later true is = is
      by_test later false is = later

  find_last-passes : (xs : List X) → IfSome (find_last test xs) (λ x. test x ≡ true)
  find_last-passes [] = tt
  find_last-passes (x ∷ xs) = by_rest (find_last test xs) (find_last-passes xs)
    where
      by_test : (b : Bool) → test x ≡ b → IfSome (cond b (Some x) None) (λ x. test x ≡ true)
      by_test true is = is
      by_test false is = tt

      by_rest : (o : Option X) → IfSome o (λ x. test x ≡ true)
          → IfSome (option_or o (cond (test x) (Some x) None)) (λ x. test x ≡ true)
      by_rest None later = by_test (test x) refl
      by_rest (Some y) later = later

-- the key of the closest item, if any, is at most `p`
module _ {X K : Type 0} (key : X → K) (cmp : K → K → Ordering) where
  closest_item-at_most : (xs : List X) (p : K) → IfSome (closest_item key cmp xs p) (λ x. is_le (cmp (key x) p) ≡ true)
  closest_item-at_most xs p =
      either_has key cmp (λ x. is_le (cmp (key x) p) ≡ true) (find (λ x. is_eq (cmp (key x) p)) xs)
      (find_last (λ x. is_lt (cmp (key x) p)) xs)
      (if_some_weaker (λ x at. is_le-equal (cmp (key x) p) at) _ (find-passes (λ x. is_eq (cmp (key x) p)) xs))
      (if_some_weaker (λ x less. is_le-less (cmp (key x) p) less) _ (find_last-passes (λ x. is_lt (cmp (key x) p)) xs))

pub closest-at_most : {X K : Type 0} (key : X → K) (cmp : K → K → Ordering) (xs : List X) (p : K)
    → IfSome (closest key cmp xs p) (λ e. is_le (cmp (key e.1) p) ≡ true)
unfolding closest
closest-at_most {X} key cmp xs p = closest_item-at_most (λ (e : ℕ × X). key e.1) cmp (enumerate_from 0 xs) p

-- let `change` keep the key of each item. If a search by key finds an item in a list, the same search finds the changed
-- item in the changed list. If the search finds nothing in the list, it finds nothing in the changed list
module _ {X Y K : Type 0} (key : X → K) (key' : Y → K) (cmp : K → K → Ordering) (change : X → Y)
    (kept : (x : X) → key' (change x) ≡ key x) where
  find-change : (t : K → Bool) (xs : List X)
      → find (λ y. t (key' y)) (map change xs) ≡ option_map change (find (λ x. t (key x)) xs)
  find-change t [] = refl
  find-change t (x ∷ xs) =
      rw (kept x, find-change t xs)
      (elim (t (key x)) as (λ b. cond b (Some (change x)) (option_map change (find (λ x. t (key x)) xs))
      ≡ option_map change (cond b (Some x) (find (λ x. t (key x)) xs))) [ true ↦ refl | false ↦ refl ])

  or_change : (o q : Option X)
      → option_or (option_map change o) (option_map change q) ≡ option_map change (option_or o q)
  or_change None q = refl
  or_change (Some x) q = refl

  find_last-change : (t : K → Bool) (xs : List X)
      → find_last (λ y. t (key' y)) (map change xs) ≡ option_map change (find_last (λ x. t (key x)) xs)
  find_last-change t [] = refl
  find_last-change t (x ∷ xs) =
      let here : cond (t (key x)) (Some (change x)) None ≡ option_map change (cond (t (key x)) (Some x) None) =
      elim (t (key x)) as (λ b. cond b (Some (change x)) None ≡ option_map change (cond b (Some x) None)) [
        | true ↦ refl
        | false ↦ refl
      ] in
      rw (kept x, find_last-change t xs, here)
      (or_change (find_last (λ x. t (key x)) xs) (cond (t (key x)) (Some x) None))

  pub closest_item-change : (xs : List X) (p : K)
      → closest_item key' cmp (map change xs) p ≡ option_map change (closest_item key cmp xs p)
  closest_item-change xs p =
      rw (find-change (λ k. is_eq (cmp k p)) xs, find_last-change (λ k. is_lt (cmp k p)) xs)
      (or_change (find (λ x. is_eq (cmp (key x) p)) xs) (find_last (λ x. is_lt (cmp (key x) p)) xs))

items_of_entries : {X : Type 0} (n : ℕ) (xs : List X) → map (λ (e : ℕ × X). e.1) (enumerate_from n xs) ≡ xs
items_of_entries n [] = refl
items_of_entries n (x ∷ xs) = ap (λ rest. x ∷ rest) (items_of_entries (n + 1) xs)

entries-change : {X Y : Type 0} (change : X → Y) (n : ℕ) (xs : List X)
    → enumerate_from n (map change xs) ≡ map (λ (e : ℕ × X). (e.0, change e.1)) (enumerate_from n xs)
entries-change change n [] = refl
entries-change change n (x ∷ xs) = ap (λ rest. (n, change x) ∷ rest) (entries-change change (n + 1) xs)

-- if `change` keeps each key, the closest item of the changed list is the changed closest item, at the same index
pub closest-change : {X Y K : Type 0} (key : X → K) (key' : Y → K)
    (cmp : K → K → Ordering) (change : X → Y) (kept : (x : X) → key' (change x) ≡ key x) (xs : List X) (p : K)
    → closest key' cmp (map change xs) p ≡ option_map (λ (e : ℕ × X). (e.0, change e.1)) (closest key cmp xs p)
unfolding closest
closest-change {X} {Y} key key' cmp change kept xs p =
    ap (λ es. closest_item (λ (e : ℕ × Y). key' e.1) cmp es p) (entries-change change 0 xs)
    ∙ closest_item-change (λ (e : ℕ × X). key e.1) (λ (e : ℕ × Y). key' e.1) cmp (λ e. (e.0, change e.1))
    (λ e. kept e.1) (enumerate_from 0 xs) p

module _ {X K : Type 0} (key : X → K) (cmp : K → K → Ordering) (xs : List X) (p : K) where
  -- both definitions of the closest item agree
  pub item-closest : option_map (λ (e : ℕ × X). e.1) (closest key cmp xs p) ≡ closest_item key cmp xs p
  unfolding closest
  item-closest =
      sym (closest_item-change (λ (e : ℕ × X). key e.1) key cmp (λ e. e.1) (λ e. refl) (enumerate_from 0 xs) p)
      ∙ ap (λ items. closest_item key cmp items p) (items_of_entries 0 xs)

  -- the list has the closest item at the index that `closest` gives
  pub index-closest : IfSome (closest key cmp xs p) (λ e. slice_get xs e.0 ≡ Some e.1)
  unfolding closest
  index-closest =
      closest_item-has (λ (e : ℕ × X). key e.1) cmp (λ e. slice_get xs e.0 ≡ Some e.1) (enumerate_from 0 xs) p
      (recursion_from_All (λ e. slice_get xs e.0 ≡ Some e.1) (enumerate_from 0 xs) (λ k d l.
      let many = length-enumerate_from 0 xs in
      rw (entry-at xs k d (omega arith)) (slice_get-get_or xs k d.1 (omega arith))))
