-- A sufficient condition and a necessary condition for a token of a sorted list to be the closest to a position.
use Rattle.std.proofs.Common.{◌≡◌, refl, sym, ap, subst, ◌∙◌, ℕ, zero, suc, ◌<◌, List, [], ◌∷◌, length, Bool, true}
use Rattle.std.proofs.Common.{false, cond, Some, None, Option, find, arith, inl, inr, ◌⊎◌}
use Rattle.std.specs.List.{AllByRecursion, Contains, slice_index_or}
use Rattle.std.specs.Option.{option_or, IfSome}
use Rattle.std.specs.Ordering.{is_eq}
use Rattle.std.proofs.lemmas.Bool.{cases_Bool, false_from_ne_true, false≢true, true≢false}
use Rattle.std.proofs.lemmas.Bool.Decides.{nat_tests}
use Rattle.sourcemap_tokens.specs.declared.tokens.RawToken.{RawToken}
use Rattle.sourcemap_tokens.specs.Search.{closest_item, find_last}
use Rattle.sourcemap_tokens.specs.Tokens.{destination, insert_by, position_cmp, sorted_by}
use Rattle.sourcemap_tokens.proofs.SortLemmas.{Rises}
use Rattle.sourcemap_tokens.proofs.AllLemmas.{All-both, All-of, All-weaker}
use Rattle.sourcemap_compose.specs.Stretches.{is_before}
use Rattle.sourcemap_compose.proofs.StretchesLemmas.{before-chain, after_earlier, not_before_itself, not_both_ways}
use Rattle.sourcemap_tokens.proofs.SearchLemmas.{cases_Option}

-- Items of a list.

abbrev pub IsIn : {X : Type 0} → X → List X → Type 0
IsIn x [] = ⊥
IsIn x (y ∷ ys) = (y ≡ x) ⊎ IsIn x ys

module _ {X : Type 0} where
  pub Contains-from_in : (x : X) (xs : List X) → IsIn x xs → Contains xs x
  Contains-from_in x [] is = absurd is
  Contains-from_in x (y ∷ ys) (inl e) = (0, omega arith, e)
  Contains-from_in x (y ∷ ys) (inr is) = let later = Contains-from_in x ys is in
      (suc later.0, omega (arith, later.1), later.2)

  in_at : (x : X) (xs : List X) (k : ℕ) → k < length xs → slice_index_or xs k x ≡ x → IsIn x xs
  in_at x [] k l e = absurd (omega arith)
  in_at x (y ∷ ys) zero l e = inl e
  in_at x (y ∷ ys) (suc k) l e = inr (in_at x ys k (omega arith) e)

  pub in_from_Contains : (x : X) (xs : List X) → Contains xs x → IsIn x xs
  in_from_Contains x xs is = in_at x xs is.0 is.1 is.2

  pub All-in : (P : X → Type 0) (x : X) (xs : List X) → AllByRecursion P xs → IsIn x xs → P x
  All-in P x [] all is = absurd is
  All-in P x (y ∷ ys) all (inl e) = subst P e all.0
  All-in P x (y ∷ ys) all (inr is) = All-in P x ys all.1 is

  pub All-from_in : (P : X → Type 0) (xs : List X) → ((x : X) → IsIn x xs → P x) → AllByRecursion P xs
  All-from_in P [] each = tt
  All-from_in P (y ∷ ys) each = (each y (inl refl), All-from_in P ys (λ x is. each x (inr is)))

-- sorting keeps all items
in-insert_by : (z x : RawToken) (ys : List RawToken) → IsIn z (x ∷ ys)
    → IsIn z (insert_by destination position_cmp x ys)
in-insert_by z x [] is = is
in-insert_by z x (y ∷ ys) is =
    elim (is_before (destination y) (destination x))
    as (λ b. IsIn z (cond b (y ∷ insert_by destination position_cmp x ys) (x ∷ y ∷ ys))) [
      | true ↦ after is (in-insert_by z x ys)
      | false ↦ is
    ]
  where
    after : IsIn z (x ∷ y ∷ ys) → (IsIn z (x ∷ ys) → IsIn z (insert_by destination position_cmp x ys))
        → IsIn z (y ∷ insert_by destination position_cmp x ys)
    after (inl e) put = inr (put (inl e))
    after (inr (inl e)) put = inl e
    after (inr (inr later)) put = inr (put (inr later))

pub in-sorted : (z : RawToken) (xs : List RawToken) → IsIn z xs → IsIn z (sorted_by destination position_cmp xs)
in-sorted z [] is = is
in-sorted z (x ∷ xs) (inl e) = in-insert_by z x (sorted_by destination position_cmp xs) (inl e)
in-sorted z (x ∷ xs) (inr is) = in-insert_by z x (sorted_by destination position_cmp xs) (inr (in-sorted z xs is))

-- Searches.

module _ {X : Type 0} (t : X → Bool) where
  pub find-only : (x : X) (xs : List X) → AllByRecursion (λ y. t y ≡ true → y ≡ x) xs → IsIn x xs → t x ≡ true
      → find t xs ≡ Some x
  find-only x [] only is passes = absurd is
  find-only x (y ∷ ys) only is passes =
      elim (cases_Bool (t y)) [
        | inl here ↦ rw here (ap Some (only.0 here))
        | inr not_here ↦ rw not_here (find-only x ys only.1 (later is not_here) passes)
      ]
    where
      later : (y ≡ x) ⊎ IsIn x ys → t y ≡ false → IsIn x ys
      later (inl e) fails = let both : t y ≡ true = subst (λ z. t z ≡ true) (sym e) passes in cc
      later (inr is) fails = is

  pub find-fails : (xs : List X) → AllByRecursion (λ y. t y ≡ false) xs → find t xs ≡ None
  find-fails [] fails = refl
  find-fails (y ∷ ys) fails = rw fails.0 (find-fails ys fails.1)

  pub find-passes : (x : X) (xs : List X) → find t xs ≡ Some x → IsIn x xs × (t x ≡ true)
  find-passes x [] e = cc
  find-passes x (y ∷ ys) e =
      elim (cases_Bool (t y)) [
        | inl here ↦
            let found : Some y ≡ Some x = rw here at e in
            let same : y ≡ x = cc in
            (inl same, subst (λ z. t z ≡ true) same here)
        | inr not_here ↦ let later = find-passes x ys (rw not_here at e) in (inr later.0, later.1)
      ]

  pub find-none : (xs : List X) → find t xs ≡ None → AllByRecursion (λ y. t y ≡ false) xs
  find-none [] e = tt
  find-none (y ∷ ys) e =
      elim (cases_Bool (t y)) [
        | inl here ↦ let found : Some y ≡ None = rw here at e in cc
        | inr not_here ↦ (not_here, find-none ys (rw not_here at e))
      ]

  pub last-fails : (xs : List X) → AllByRecursion (λ y. t y ≡ false) xs → find_last t xs ≡ None
  last-fails [] fails = refl
  last-fails (y ∷ ys) fails = rw (last-fails ys fails.1, fails.0) refl

  pub last-none : (xs : List X) → find_last t xs ≡ None → AllByRecursion (λ y. t y ≡ false) xs
  last-none [] e = tt
  last-none (y ∷ ys) e = either (find_last t ys) (last-none ys) e
    where
      here : (b : Bool) → t y ≡ b → cond b (Some y) None ≡ None → t y ≡ false
      here true is none = cc
      here false is none = is

      either : (o : Option X) → (o ≡ None → AllByRecursion (λ z. t z ≡ false) ys)
          → option_or o (cond (t y) (Some y) None) ≡ None → AllByRecursion (λ z. t z ≡ false) (y ∷ ys)
      either None later none = (here (t y) refl none, later refl)
      either (Some z) later none = cc

  pub last-passes : (P : X → Type 0) (xs : List X) → AllByRecursion P xs
      → IfSome (find_last t xs) (λ z. P z × (t z ≡ true))
  last-passes P [] all = tt
  last-passes P (y ∷ ys) all = either (find_last t ys) (last-passes P ys all.1)
    where
      here : (b : Bool) → t y ≡ b → IfSome (cond b (Some y) None) (λ z. P z × (t z ≡ true))
      here true e = (all.0, e)
      here false e = tt

      either : (o : Option X) → IfSome o (λ z. P z × (t z ≡ true))
          → IfSome (option_or o (cond (t y) (Some y) None)) (λ z. P z × (t z ≡ true))
      either None none = here (t y) refl
      either (Some z) some = some

module _ (q : ℕ × ℕ) where
  -- let `x` be before `q`, and let no token of `ys` be before `x`. If each token of `ys` that is before `q` equals `x`,
  -- then `x` is the last token of `x ∷ ys` that is before `q`
  last-here : (x : RawToken) (ys : List RawToken)
      → AllByRecursion (λ y. is_before (destination y) (destination x) ≡ false) ys
      → AllByRecursion (λ y. is_before (destination y) q ≡ true
      → is_before (destination y) (destination x) ≡ false → y ≡ x) ys
      → is_before (destination x) q ≡ true
      → option_or (find_last (λ y. is_before (destination y) q) ys) (cond (is_before (destination x) q) (Some x) None)
      ≡ Some x
  last-here x ys above only passes =
      rw passes (found (find_last (λ y. is_before (destination y) q) ys)
      (last-passes (λ y. is_before (destination y) q) (λ y. (is_before (destination y) q ≡ true → is_before
      (destination y) (destination x) ≡ false → y ≡ x) × (is_before (destination y) (destination x) ≡ false)) ys
      (All-both (λ y. is_before (destination y) q ≡ true → is_before (destination y) (destination x) ≡ false → y ≡ x)
      (λ y. is_before (destination y) (destination x) ≡ false) ys only above)))
    where
      found : (o : Option RawToken)
          → IfSome o (λ z. ((is_before (destination z) q ≡ true → is_before (destination z) (destination x) ≡ false
          → z ≡ x) × (is_before (destination z) (destination x) ≡ false)) × (is_before (destination z) q ≡ true))
          → option_or o (Some x) ≡ Some x
      found None some = refl
      found (Some z) some = ap Some (some.0.0 some.1 some.0.1)

  pub last-only : (x : RawToken) (xs : List RawToken) → Rises (λ a b. is_before (destination a) (destination b)) xs
      → AllByRecursion (λ y. is_before (destination y) q ≡ true
      → is_before (destination y) (destination x) ≡ false → y ≡ x) xs
      → IsIn x xs → is_before (destination x) q ≡ true → find_last (λ y. is_before (destination y) q) xs ≡ Some x
  last-only x [] r only is passes = absurd is
  last-only x (y ∷ ys) r only (inr is) passes = rw (last-only x ys r.1 only.1 is passes) refl
  last-only x (y ∷ ys) r only (inl e) passes =
      subst (λ w. option_or (find_last (λ y'. is_before (destination y') q) ys) (cond (is_before (destination w) q)
      (Some w) None) ≡ Some x) (sym e)
      (last-here x ys
      (subst (λ w. AllByRecursion (λ y'. is_before (destination y') (destination w) ≡ false) ys) e r.0) only.1 passes)

  at_or_before : (p : ℕ × ℕ) → is_before q p ≡ false → is_eq (position_cmp p q) ≡ false → is_before p q ≡ true
  at_or_before p reached apart = grind (arith, nat_tests)

  at-neither : (p : ℕ × ℕ) → is_eq (position_cmp p q) ≡ true → (is_before p q ≡ false) × (is_before q p ≡ false)
  at-neither p at = (grind (arith, nat_tests), grind (arith, nat_tests))

  before-not_at : (p : ℕ × ℕ) → is_before p q ≡ true → is_eq (position_cmp p q) ≡ false
  before-not_at p before = grind (arith, nat_tests)

  -- let `xs` be in order, and `x` a token of `xs` at or before `q`. If no other token of `xs` is between `x` and `q`,
  -- both included, `x` is the token closest to `q`
  pub closest-only : (x : RawToken) (xs : List RawToken) → Rises (λ a b. is_before (destination a) (destination b)) xs
      → IsIn x xs → is_before q (destination x) ≡ false
      → AllByRecursion (λ y. is_before (destination y) (destination x) ≡ false
      → is_before q (destination y) ≡ false → y ≡ x) xs
      → closest_item destination position_cmp xs q ≡ Some x
  closest-only x xs r is reached only =
      elim (cases_Bool (is_eq (position_cmp (destination x) q))) [
        | inl at ↦
            let hit : find (λ y. is_eq (position_cmp (destination y) q)) xs ≡ Some x =
            find-only (λ y. is_eq (position_cmp (destination y) q)) x xs
            (All-weaker (λ y. is_before (destination y) (destination x) ≡ false → is_before q (destination y) ≡ false
            → y ≡ x) (λ y. is_eq (position_cmp (destination y) q) ≡ true → y ≡ x)
            (λ y one at_y. one (before-chain (destination y) q (destination x) (at-neither (destination y) at_y).0
            (at-neither (destination x) at).1) (at-neither (destination y) at_y).1) xs only)
            is at in
            rw hit refl
        | inr apart ↦
            let before : is_before (destination x) q ≡ true = at_or_before (destination x) reached apart in
            let miss : find (λ y. is_eq (position_cmp (destination y) q)) xs ≡ None =
            find-fails (λ y. is_eq (position_cmp (destination y) q)) xs
            (All-weaker (λ y. is_before (destination y) (destination x) ≡ false → is_before q (destination y) ≡ false
            → y ≡ x) (λ y. is_eq (position_cmp (destination y) q) ≡ false)
            (λ y one. false_from_ne_true (is_eq (position_cmp (destination y) q)) (λ at_y.
            let same : y ≡ x = one (after_earlier (destination y) (destination x) q before
            (at-neither (destination y) at_y).0) (at-neither (destination y) at_y).1 in
            let here : is_eq (position_cmp (destination x) q) ≡ true =
            subst (λ w. is_eq (position_cmp (destination w) q) ≡ true) same at_y in
            true≢false (sym here ∙ apart))) xs only) in
            let last : find_last (λ y. is_before (destination y) q) xs ≡ Some x =
            last-only x xs r
            (All-weaker (λ y. is_before (destination y) (destination x) ≡ false
            → is_before q (destination y) ≡ false → y ≡ x) (λ y. is_before (destination y) q ≡ true
            → is_before (destination y) (destination x) ≡ false → y ≡ x)
            (λ y one before_y after_x. one after_x (not_both_ways (destination y) q before_y)) xs only)
            is before in
            rw (miss, last) refl
      ]

  -- `t` is a token of `xs` at or before `q`. No token of `xs` at or before `q` is after `t`
  pub record IsGreatest (t : RawToken) (xs : List RawToken) : Type 0 where
    pub one : IsIn t xs
    pub reached : is_before q (destination t) ≡ false
    pub others : AllByRecursion (λ y. is_before q (destination y) ≡ false
        → is_before (destination t) (destination y) ≡ false) xs

  last-greatest : (t : RawToken) (xs : List RawToken) → Rises (λ a b. is_before (destination a) (destination b)) xs
      → AllByRecursion (λ y. is_eq (position_cmp (destination y) q) ≡ false) xs
      → find_last (λ y. is_before (destination y) q) xs ≡ Some t → IsGreatest t xs
  last-greatest t [] r apart e = cc
  last-greatest t (y ∷ ys) r apart e =
      elim (cases_Option (find_last (λ z. is_before (destination z) q) ys)) [
        | inl none ↦
            let fail = last-none (λ z. is_before (destination z) q) ys none in
            elim (cases_Bool (is_before (destination y) q)) [
              | inl before ↦
                  let here : Some y ≡ Some t = rw (none, before) at e in
                  let same : y ≡ t = cc in
                  record {
                    one = inl same;
                    reached =
                        subst (λ w. is_before q (destination w) ≡ false) same (not_both_ways (destination y) q before);
                    others = (
                      λ reached. subst (λ w. is_before (destination w) (destination y) ≡ false) same
                          (not_before_itself (destination y)),
                      All-weaker
                          (λ u. (is_eq (position_cmp (destination u) q) ≡ false)
                          × (is_before (destination u) q ≡ false))
                          (λ u. is_before q (destination u) ≡ false → is_before (destination t) (destination u) ≡ false)
                          (λ u fails reached. let before_u : is_before (destination u) q ≡ true =
                          at_or_before (destination u) reached fails.0 in absurd (false≢true (sym fails.1 ∙ before_u)))
                          ys (All-both (λ u. is_eq (position_cmp (destination u) q) ≡ false)
                          (λ u. is_before (destination u) q ≡ false) ys apart.1 fail),
                    );
                  }
              | inr not_before ↦ let here : None ≡ Some t = rw (none, not_before) at e in cc
            ]
        | inr some ↦
            let here : Some some.0 ≡ Some t = rw some.1 at e in
            let later = last-greatest t ys r.1 apart.1 (some.1 ∙ here) in
            record {
              one = inr later.one;
              reached = later.reached;
              others = (
                λ reached. All-in (λ u. is_before (destination u) (destination y) ≡ false) t ys r.0 later.one,
                later.others,
              );
            }
      ]

  pub closest-greatest : (t : RawToken) (xs : List RawToken)
      → Rises (λ a b. is_before (destination a) (destination b)) xs
      → closest_item destination position_cmp xs q ≡ Some t → IsGreatest t xs
  closest-greatest t xs r e =
      elim (cases_Option (find (λ y. is_eq (position_cmp (destination y) q)) xs)) [
        | inl none ↦
            last-greatest t xs r (find-none (λ y. is_eq (position_cmp (destination y) q)) xs none) (rw none at e)
        | inr some ↦
            let here : Some some.0 ≡ Some t = rw some.1 at e in
            let found = find-passes (λ y. is_eq (position_cmp (destination y) q)) t xs (some.1 ∙ here) in
            let at = at-neither (destination t) found.1 in
            record {
              one = found.0;
              reached = at.1;
              others = All-of (λ y. is_before q (destination y) ≡ false → is_before (destination t) (destination y)
                  ≡ false) (λ y reached. before-chain (destination t) q (destination y) at.0 reached) xs;
            }
      ]
