-- The result of a search, and the table after one more text.
use Rattle.std.proofs.Common.{◌≡◌, ◌≢◌, refl, sym, ap, subst, ◌∙◌, ℕ, zero, suc, ◌+◌, ◌<◌, List, [], ◌∷◌, ◌++◌, length}
use Rattle.std.proofs.Common.{false, cond, Some, None, Option, Result, Ok, Err, OnOk, OnErr, arith, inl, inr, ◌⊎◌}
use Rattle.std.proofs.Common.{slice_get, slice_set, take}
use Rattle.std.specs.Str.{bytes_eq}
use Rattle.std.proofs.lemmas.Bool.{cases_Bool, cases_eq}
use Rattle.std.proofs.lemmas.List.{length_push, length-set}
use Rattle.std.proofs.lemmas.Option.{slice_get_within}
use Rattle.std.proofs.lemmas.Slice.Eq.{bytes_eq-Decides}
use Rattle.sourcemap_interning.specs.Interner.{AreDistinct, id_of}
use Rattle.sourcemap_interning.specs.Slots.{ArePassed, AreRight, IsBlocked, IsIndex, IsPassed, IsProbed, IsRight}
use Rattle.sourcemap_interning.specs.Slots.{hash_of, start_of}
use Rattle.sourcemap_interning.specs.declared.slots.Probe.{Probe}
use Rattle.sourcemap_interning.specs.declared.slots.Probe.TheVariants.{Free, Full, Taken}
use Rattle.sourcemap_interning.specs.declared.slots.Slot.{Slot}
use Rattle.sourcemap_interning.proofs.InternerLemmas.{AreDistinct-append, bytes_eq-refl, slice_get-append}
use Rattle.sourcemap_interning.proofs.InternerLemmas.{slice_get-id_of}
use Rattle.sourcemap_interning.proofs.ItemLemmas.{slice_get-set_same, slice_get-set_other, slice_get-pushed}
use Rattle.sourcemap_interning.proofs.ItemLemmas.{slice_get-last}

none_has : (texts : List (List ℕ)) (text : List ℕ) → ((n : ℕ) → slice_get texts n ≡ Some text → ⊥)
    → id_of text texts ≡ None
none_has texts text never = by_case (id_of text texts) refl
  where
    by_case : (o : Option ℕ) → id_of text texts ≡ o → id_of text texts ≡ None
    by_case None e = e
    by_case (Some n) e = absurd (never n (slice_get-id_of text texts n e))

one_slot : (slots : List Slot) (slot_index : ℕ) (a b : Slot) → slice_get slots slot_index ≡ Some a
    → slice_get slots slot_index ≡ Some b → a ≡ b
one_slot slots slot_index a b e f = cc

-- a search ends in one way
module _ (slots : List Slot) (hash start : ℕ) where
  -- the slot has no number, or has the hash
  abbrev IsEnd : ℕ → Type 0
  IsEnd k =
      (slot : Slot) × (slice_get slots (start + k) ≡ Some slot) × ((slot.number ≡ 4294967295) ⊎ (slot.hash ≡ hash))

  passed_or_end : (k : ℕ) → IsPassed slots hash (start + k) → IsEnd k → ⊥
  passed_or_end k passed end =
      let same : passed.0 ≡ end.0 = one_slot slots (start + k) passed.0 end.0 passed.1 end.1 in
      elim end.2 [
        | inl free ↦ passed.2 (ap (λ (s : Slot). s.number) same ∙ free)
        | inr hit ↦ passed.3 (ap (λ (s : Slot). s.hash) same ∙ hit)
      ]

  same_end : (j k : ℕ) → ArePassed slots hash start j → ArePassed slots hash start k → IsEnd j → IsEnd k → j ≡ k
  same_end j k passed_j passed_k end_j end_k = elim (cases_eq j k) [
    | inl same ↦ same
    | inr apart ↦ elim (less_or_more j k apart) [
      | inl below ↦ absurd (passed_or_end j (passed_k j below) end_j)
      | inr above ↦ absurd (passed_or_end k (passed_j k above) end_k)
    ]
  ]
    where
      less_or_more : (a b : ℕ) → a ≢ b → (a < b) ⊎ (b < a)
      less_or_more zero zero h = absurd (h refl)
      less_or_more zero (suc b) h = inl (omega arith)
      less_or_more (suc a) zero h = inr (omega arith)
      less_or_more (suc a) (suc b) h = elim (less_or_more a b (λ e. h (ap suc e))) [
        | inl l ↦ inl (omega (arith, l))
        | inr l ↦ inr (omega (arith, l))
      ]

  free_end : (i : ℕ) (free : IsProbed slots hash start (Free i)) → IsEnd free.0
  free_end i free = (free.4, free.5, inl free.6)

  taken_end : (n : ℕ) (taken : IsProbed slots hash start (Taken n)) → IsEnd taken.0
  taken_end n taken = (taken.4, taken.5, inr taken.7)

  free_or_taken : (i n : ℕ) → IsProbed slots hash start (Free i) → IsProbed slots hash start (Taken n) → ⊥
  free_or_taken i n free taken =
      let same : free.0 ≡ taken.0 = same_end free.0 taken.0 free.2 taken.2 (free_end i free) (taken_end n taken) in
      let slot : free.4 ≡ taken.4 = one_slot slots (start
      + taken.0) free.4 taken.4 (subst (λ k. slice_get slots (start + k) ≡ Some free.4) same free.5) taken.5 in
      taken.3 (sym taken.6 ∙ ap (λ (s : Slot). s.number) (sym slot) ∙ free.6)

  free_or_full : (i : ℕ) → IsProbed slots hash start (Free i) → IsProbed slots hash start Full → ⊥
  free_or_full i free full = passed_or_end free.0 (full free.0 free.1) (free_end i free)

  taken_or_full : (n : ℕ) → IsProbed slots hash start (Taken n) → IsProbed slots hash start Full → ⊥
  taken_or_full n taken full = passed_or_end taken.0 (full taken.0 taken.1) (taken_end n taken)

  pub one_number : (m n : ℕ) → IsProbed slots hash start (Taken m) → IsProbed slots hash start (Taken n) → m ≡ n
  one_number m n a b =
      let same : a.0 ≡ b.0 = same_end a.0 b.0 a.2 b.2 (taken_end m a) (taken_end n b) in
      let slot : a.4 ≡ b.4 =
      one_slot slots (start + b.0) a.4 b.4 (subst (λ k. slice_get slots (start + k) ≡ Some a.4) same a.5) b.5 in
      sym a.6 ∙ ap (λ (s : Slot). s.number) slot ∙ b.6

  free_or_blocked : (i : ℕ) → IsProbed slots hash start (Free i) → IsBlocked slots hash start → ⊥
  free_or_blocked i free blocked = elim blocked [
    | inl full ↦ free_or_full i free full
    | inr taken ↦ free_or_taken i taken.0 free taken.1
  ]

  -- a search that ends at no slot
  pub none_taken : (p : Probe) → IsProbed slots hash start p → ((i : ℕ) → p ≡ Free i → ⊥) → ((n : ℕ) → p ≡ Taken n → ⊥)
      → (n : ℕ) → IsProbed slots hash start (Taken n) → ⊥
  none_taken (Free i) probed not_free not_taken n taken = not_free i refl
  none_taken (Taken m) probed not_free not_taken n taken = not_taken m refl
  none_taken Full probed not_free not_taken n taken = taken_or_full n taken probed

module _ (texts : List (List ℕ)) (mask : ℕ) (slots : List Slot) (others : List ℕ → Option ℕ)
    (is : IsIndex texts mask slots others) (text : List ℕ) where
  -- a search that ends at a free slot finds no text
  pub none-free : (i : ℕ) → IsProbed slots (hash_of text) (start_of mask (hash_of text)) (Free i)
      → id_of text texts ≡ None
  none-free i free = none_has texts text (λ n named. elim (is.found n text named) [
    | inl taken ↦ free_or_taken slots (hash_of text) (start_of mask (hash_of text)) i n free taken
    | inr other ↦ free_or_blocked slots (hash_of text) (start_of mask (hash_of text)) i free other.0
  ])

  -- a search that ends at no slot of the text goes on in `others`
  pub others-next : ((n : ℕ) → IsProbed slots (hash_of text) (start_of mask (hash_of text)) (Taken n)
      → slice_get texts n ≡ Some text → ⊥) → id_of text texts ≡ others text
  others-next not_taken = by_case (others text) refl
    where
      by_case : (o : Option ℕ) → others text ≡ o → id_of text texts ≡ o
      by_case (Some n) e = is.distinct text n (is.others_right n text e)
      by_case None e = none_has texts text (λ n named. elim (is.found n text named) [
        | inl taken ↦ not_taken n taken named
        | inr other ↦ let found = other.1 in cc
      ])

  -- one more text
  module _ (below_max : length texts < 4294967295) (new : id_of text texts ≡ None) where
    apart_old : (n : ℕ) (t : List ℕ) → slice_get texts n ≡ Some t → bytes_eq text t ≡ false
    apart_old n t old = elim (cases_Bool (bytes_eq text t)) [
      | inl same ↦
          let found : id_of t texts ≡ Some n = is.distinct t n old in
          let none : id_of t texts ≡ None = subst (λ u. id_of u texts ≡ None) ((bytes_eq-Decides text t).0 same) new in
          cc
      | inr apart ↦ apart
    ]

    right_more : (slot : Slot) → IsRight texts slot → IsRight (texts ++ text ∷ []) slot
    right_more slot right = (right.0, slice_get-pushed texts text right.0 slot.number right.1, right.2)

    -- `others'` has the numbers of `others`, and for the new text at most the next number
    module _ (others' : List ℕ → Option ℕ) (kept : (t : List ℕ) → bytes_eq text t ≡ false → others' t ≡ others t)
        (next : (n : ℕ) → others' text ≡ Some n → n ≡ length texts) where
      others_right' : (n : ℕ) (t : List ℕ) → others' t ≡ Some n → slice_get (texts ++ text ∷ []) n ≡ Some t
      others_right' n t e = elim (cases_Bool (bytes_eq text t)) [
        | inl same ↦
            let alike : text ≡ t = (bytes_eq-Decides text t).0 same in
            let is_last : n ≡ length texts = next n (subst (λ u. others' u ≡ Some n) (sym alike) e) in
            subst (λ m. slice_get (texts ++ text ∷ []) m ≡ Some t) (sym is_last)
            (slice_get-last texts text ∙ ap Some alike)
        | inr apart ↦ slice_get-pushed texts text t n (is.others_right n t (sym (kept t apart) ∙ e))
      ]

      module _ (i : ℕ) (free : IsProbed slots (hash_of text) (start_of mask (hash_of text)) (Free i)) where
        abbrev new_slot : Slot
        new_slot = record { hash = hash_of text; number = length texts }

        abbrev after : List Slot
        after = slice_set slots (start_of mask (hash_of text) + free.0) new_slot

        stays : (p : ℕ) (slot : Slot) → slice_get slots p ≡ Some slot → slot.number ≢ 4294967295
            → slice_get after p ≡ Some slot
        stays p slot at taken = elim (cases_eq p (start_of mask (hash_of text) + free.0)) [
          | inl same ↦
              let here : slice_get slots (start_of mask (hash_of text) + free.0) ≡ Some slot =
              subst (λ q. slice_get slots q ≡ Some slot) same at in
              absurd (taken (ap (λ (s : Slot). s.number) (one_slot slots
              (start_of mask (hash_of text) + free.0) slot free.4 here free.5) ∙ free.6))
          | inr apart ↦ slice_get-set_other slots (start_of mask (hash_of text) + free.0) p new_slot apart ∙ at
        ]

        passed_still : (hash start count : ℕ) → ArePassed slots hash start count → ArePassed after hash start count
        passed_still hash start count passed k below =
            let slot = passed k below in
            (slot.0, stays (start + k) slot.0 slot.1 slot.2, slot.2, slot.3)

        taken_still : (hash start n : ℕ) → IsProbed slots hash start (Taken n) → IsProbed after hash start (Taken n)
        taken_still hash start n taken = (
          taken.0,
          taken.1,
          passed_still hash start taken.0 taken.2,
          taken.3,
          taken.4,
          stays (start + taken.0) taken.4 taken.5 (λ e. taken.3 (sym taken.6 ∙ e)),
          taken.6,
          taken.7,
        )

        blocked_still : (hash start : ℕ) → IsBlocked slots hash start → IsBlocked after hash start
        blocked_still hash start blocked = elim blocked [
          | inl full ↦ inl (passed_still hash start 32 full)
          | inr taken ↦ inr (taken.0, taken_still hash start taken.0 taken.1)
        ]

        -- if `texts` has fewer than 4294967295 texts, the index stays valid when a new `text` goes to the free slot at
        -- which its search ends
        pub index-free : IsIndex (texts ++ text ∷ []) mask after others'
        index-free = record {
          few = let more = length_push texts text in omega (arith, more, below_max);
          distinct = AreDistinct-append texts text is.distinct new;
          long = length-set slots (start_of mask (hash_of text) + free.0) new_slot ∙ is.long;
          right = right';
          found = found';
          others_right = others_right';
        }
          where
            right' : AreRight (texts ++ text ∷ []) after
            right' p slot at taken = elim (cases_eq p (start_of mask (hash_of text) + free.0)) [
              | inl same ↦
                  let here : slice_get after p ≡ Some new_slot =
                  subst (λ q. slice_get after q ≡ Some new_slot) (sym same)
                  (slice_get-set_same slots (start_of mask (hash_of text) + free.0) new_slot
                  (slice_get_within slots (start_of mask (hash_of text) + free.0) free.4 free.5)) in
                  subst (IsRight (texts ++ text ∷ [])) (one_slot after p new_slot slot here at)
                  (text, slice_get-last texts text, refl)
              | inr apart ↦ right_more slot (is.right p slot
                  (sym (slice_get-set_other slots (start_of mask (hash_of text) + free.0) p new_slot apart) ∙ at) taken)
            ]

            found' : (n : ℕ) (t : List ℕ) → slice_get (texts ++ text ∷ []) n ≡ Some t
                → IsProbed after (hash_of t) (start_of mask (hash_of t)) (Taken n)
                ⊎ (IsBlocked after (hash_of t) (start_of mask (hash_of t)) × (others' t ≡ Some n))
            found' n t named = elim (slice_get-append texts text n t named) [
              | inl old ↦ elim (is.found n t old) [
                | inl taken ↦ inl (taken_still (hash_of t) (start_of mask (hash_of t)) n taken)
                | inr other ↦ inr (
                  blocked_still (hash_of t) (start_of mask (hash_of t)) other.0,
                  kept t (apart_old n t old) ∙ other.1,
                )
              ]
              | inr last ↦
                  let some : n ≢ 4294967295 = λ e. let is_last = last.0 in omega (arith, is_last, e, below_max) in
                  let here : IsProbed after (hash_of text) (start_of mask (hash_of text)) (Taken n) = (
                    free.0,
                    free.1,
                    passed_still (hash_of text) (start_of mask (hash_of text)) free.0 free.2,
                    some,
                    new_slot,
                    slice_get-set_same slots (start_of mask (hash_of text) + free.0) new_slot
                        (slice_get_within slots (start_of mask (hash_of text) + free.0) free.4 free.5),
                    sym last.0,
                    refl,
                  ) in
                  inl (subst (λ u. IsProbed after (hash_of u) (start_of mask (hash_of u)) (Taken n)) last.1 here)
            ]

      -- if its search ends at no free slot, the index stays valid when `others'` has the next number for the new `text`
      pub index-full : IsBlocked slots (hash_of text) (start_of mask (hash_of text))
          → others' text ≡ Some (length texts) → IsIndex (texts ++ text ∷ []) mask slots others'
      index-full blocked here = record {
        few = let more = length_push texts text in omega (arith, more, below_max);
        distinct = AreDistinct-append texts text is.distinct new;
        long = is.long;
        right = λ p slot at taken. right_more slot (is.right p slot at taken);
        found = found';
        others_right = others_right';
      }
        where
          found' : (n : ℕ) (t : List ℕ) → slice_get (texts ++ text ∷ []) n ≡ Some t
              → IsProbed slots (hash_of t) (start_of mask (hash_of t)) (Taken n)
              ⊎ (IsBlocked slots (hash_of t) (start_of mask (hash_of t)) × (others' t ≡ Some n))
          found' n t named = elim (slice_get-append texts text n t named) [
            | inl old ↦ elim (is.found n t old) [
              | inl taken ↦ inl taken
              | inr other ↦ inr (other.0, kept t (apart_old n t old) ∙ other.1)
            ]
            | inr last ↦
                inr (
                  subst (λ u. IsBlocked slots (hash_of u) (start_of mask (hash_of u))) last.1 blocked,
                  subst (λ u. others' u ≡ Some n) last.1 (here ∙ ap Some (sym last.0)),
                )
          ]

-- a text of a list of distinct texts does not occur before its index
pub new-among : (texts : List (List ℕ)) (i : ℕ) (text : List ℕ) → AreDistinct texts → slice_get texts i ≡ Some text
    → id_of text (take i texts) ≡ None
new-among texts i text distinct at = none_has (take i texts) text never
  where
    taken : {X : Type 0} (xs : List X) (i j : ℕ) (x : X) → slice_get (take i xs) j ≡ Some x
        → (j < i) × (slice_get xs j ≡ Some x)
    taken xs zero j x e = cc
    taken [] (suc i) j x e = cc
    taken (y ∷ xs) (suc i) zero x e = (omega arith, e)
    taken (y ∷ xs) (suc i) (suc j) x e = let h = taken xs i j x e in (omega (arith, h.0), h.1)

    never : (n : ℕ) → slice_get (take i texts) n ≡ Some text → ⊥
    never n e =
        let before = taken texts i n text e in
        let here : Some n ≡ Some i = sym (distinct text n before.1) ∙ distinct text i at in
        let same : n ≡ i = cc in
        absurd (omega (arith, same, before.0))

-- let the index be valid, with fewer than 4294967295 texts, and let the search for the new `text` end at no free
-- slot. If adding `text` to `others` returned `Ok`, the index with `text` is valid
pub index-put : (texts : List (List ℕ)) (mask : ℕ) (slots : List Slot) (others : List ℕ → Option ℕ)
    (is : IsIndex texts mask slots others) (text : List ℕ) → length texts < 4294967295
    → id_of text texts ≡ None → IsBlocked slots (hash_of text) (start_of mask (hash_of text))
    → (others' : List ℕ → Option ℕ) → {A E : Type 0} (result : Result A E)
    → ((t : List ℕ) → OnOk result (others' t ≡ cond (bytes_eq text t) (Some (length texts)) (others t)))
    → OnOk result (IsIndex (texts ++ text ∷ []) mask slots others')
index-put texts mask slots others is text below_max new blocked others' (Ok x) now =
    index-full texts mask slots others is text below_max new others' (λ t apart. now t
    ∙ ap (λ b. cond b (Some (length texts)) (others t)) apart) (λ n e. next n (sym here ∙ e)) blocked here
  where
    here : others' text ≡ Some (length texts)
    here = now text ∙ ap (λ b. cond b (Some (length texts)) (others text)) (bytes_eq-refl text)

    next : (n : ℕ) → Some (length texts) ≡ Some n → n ≡ length texts
    next n e = cc
index-put texts mask slots others is text below_max new blocked others' (Err e) now = tt

-- an index stays valid if the numbers of `others` stay
pub index-kept : (texts : List (List ℕ)) (mask : ℕ) (slots : List Slot) (others others' : List ℕ → Option ℕ)
    → IsIndex texts mask slots others → {A E : Type 0} (result : Result A E)
    → ((t : List ℕ) → OnErr result (others' t ≡ others t)) → OnErr result (IsIndex texts mask slots others')
index-kept texts mask slots others others' is (Ok x) now = tt
index-kept texts mask slots others others' is (Err e) now = subst (IsIndex texts mask slots) (λ j t. sym (now t) j) is
