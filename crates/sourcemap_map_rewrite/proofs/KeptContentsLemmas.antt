-- Contents are moved to the new numbers of their sources, one after another.
use Rattle.std.proofs.Common.{◌≡◌, ◌≢◌, refl, sym, ap, ◌∙◌, ℕ, zero, suc, ◌<◌, ◌==◌, List, [], ◌∷◌, ◌++◌, length}
use Rattle.std.proofs.Common.{get_or, Bool, true, false, cond, Some, None, Option, arith, inl, inr, ◌⊎◌, slice_get}
use Rattle.std.proofs.Common.{slice_set, is_some, replicate, eqb-true, eq-eqb, option_and_then}
use Rattle.std.specs.Option.{option_or}
use Rattle.std.proofs.lemmas.Bool.{cases_eq}
use Rattle.std.proofs.lemmas.Option.{slice_get_read}
use Rattle.std.proofs.lemmas.List.{length-set, length-replicate}
use Rattle.sourcemap_map_rewrite.specs.Numbering.{first_some}
use Rattle.sourcemap_tokens.specs.Items.{item_at}
use Rattle.sourcemap_map_rewrite.specs.KeptContents.{contents_with_number, AreKept}
use Rattle.sourcemap_interning.proofs.ItemLemmas.{slice_get-set_same, slice_get-set_other}
use Rattle.sourcemap_map_rewrite.proofs.NumberingLemmas.{first_some-push, option_or-None}

-- for each old number `id`: `now` and `old` have the same contents at `id`, or `id` has a new number in `numbers` and
-- `kept` has contents at this new number
abbrev pub AreLeft : List ℕ → (old now kept : List (Option (List ℕ))) → Type 0
AreLeft numbers old now kept = (id : ℕ) → (item_at now id ≡ item_at old id)
    ⊎ ((number : ℕ) × (text : List ℕ) × (slice_get numbers id ≡ Some number) × (item_at kept number ≡ Some text))

item_at-set_same : (xs : List (Option (List ℕ))) (i : ℕ) (o : Option (List ℕ)) → i < length xs
    → item_at (slice_set xs i o) i ≡ o
item_at-set_same xs i o within = ap (option_and_then (λ x. x)) (slice_get-set_same xs i o within)

item_at-cleared : (xs : List (Option (List ℕ))) (i : ℕ) → item_at (slice_set xs i None) i ≡ None
item_at-cleared [] i = refl
item_at-cleared (x ∷ xs) zero = refl
item_at-cleared (x ∷ xs) (suc i) = item_at-cleared xs i

item_at-set_other : (xs : List (Option (List ℕ))) (i j : ℕ) (o : Option (List ℕ)) → j ≢ i
    → item_at (slice_set xs i o) j ≡ item_at xs j
item_at-set_other xs i j o apart = ap (option_and_then (λ x. x)) (slice_get-set_other xs i j o apart)

contents_with_number-same : (numbers : List ℕ) (contents : List (Option (List ℕ))) (id k : ℕ)
    → slice_get numbers id ≡ Some k → contents_with_number numbers contents k id ≡ item_at contents id
contents_with_number-same numbers contents id k e = let same : (k == k) ≡ true = eq-eqb k k refl in rw (e, same) refl

contents_with_number-other : (numbers : List ℕ) (contents : List (Option (List ℕ))) (id n k : ℕ)
    → slice_get numbers id ≡ Some n → k ≢ n → contents_with_number numbers contents k id ≡ None
contents_with_number-other numbers contents id n k e apart = rw e (by_case (n == k) refl)
  where
    by_case : (b : Bool) → (n == k) ≡ b → cond b (item_at contents id) None ≡ None
    by_case true same = absurd (apart (sym (eqb-true n k same)))
    by_case false _ = refl

item_at-nothing : (count k : ℕ) → item_at {X = List ℕ} (replicate count None) k ≡ None
item_at-nothing zero k = refl
item_at-nothing (suc n) zero = refl
item_at-nothing (suc n) (suc k) = item_at-nothing n k

-- at the start no new number has contents
pub kept-none : (numbers : List ℕ) (contents kept : List (Option (List ℕ))) (count : ℕ) → kept ≡ replicate count None
    → AreKept numbers [] contents count kept
kept-none numbers contents kept count e = record {
  many = ap length e ∙ length-replicate count None;
  each = λ k below. ap (λ xs. item_at xs k) e ∙ item_at-nothing count k;
}

module _ (numbers order : List ℕ) (old now kept now' kept' : List (Option (List ℕ))) (count id new_id : ℕ)
    (is : AreKept numbers order old count kept) (left : AreLeft numbers old now kept)
    (named : slice_get numbers id ≡ Some new_id) (within : new_id < count) where
  -- the new number has contents already
  module _ (text : List ℕ) (has : item_at kept new_id ≡ Some text) (same : kept' ≡ kept) (unchanged : now' ≡ now) where
    full-kept : AreKept numbers (order ++ id ∷ []) old count kept'
    full-kept = record {
      many = ap length same ∙ is.many;
      each = λ k below. ap (λ xs. item_at xs k) same ∙ by_case k below (cases_eq k new_id)
          ∙ sym (first_some-push (contents_with_number numbers old k) order id);
    } where
      by_case : (k : ℕ) → k < count → (k ≡ new_id) ⊎ (k ≢ new_id) → item_at kept k
          ≡ option_or (first_some (contents_with_number numbers old k) order) (contents_with_number numbers old k id)
      by_case k below (inl e) = let some : first_some (contents_with_number numbers old k) order ≡ Some text =
          sym (is.each k below) ∙ ap (item_at kept) e ∙ has in rw some (ap (item_at kept) e ∙ has)
      by_case k below (inr apart) = rw (
        contents_with_number-other numbers old id new_id k named apart,
        option_or-None (first_some (contents_with_number numbers old k) order),
      ) (is.each k below)

    full-left : AreLeft numbers old now' kept'
    full-left = rw (same, unchanged) left

  -- the new number has no contents yet
  module _ (has : item_at kept new_id ≡ None) (put : kept' ≡ slice_set kept new_id (item_at now id))
      (cleared : now' ≡ slice_set now id None) where
    untouched : item_at now id ≡ item_at old id
    untouched = by_case (left id)
      where
        by_case : (item_at now id ≡ item_at old id) ⊎ ((number : ℕ) × (text : List ℕ) × (slice_get numbers id
            ≡ Some number) × (item_at kept number ≡ Some text)) → item_at now id ≡ item_at old id
        by_case (inl e) = e
        by_case (inr (n, text, e, f)) = let same : n ≡ new_id = cc in let some : item_at kept new_id ≡ Some text =
            ap (item_at kept) (sym same) ∙ f in cc

    here : item_at kept' new_id ≡ item_at old id
    here = ap (λ xs. item_at xs new_id) put ∙ item_at-set_same kept new_id (item_at now id) (omega
        (arith, is.many)) ∙ untouched

    empty-kept : AreKept numbers (order ++ id ∷ []) old count kept'
    empty-kept = record {
      many = ap length put ∙ length-set kept new_id (item_at now id) ∙ is.many;
      each = λ k below. by_case k below (cases_eq k new_id)
          ∙ sym (first_some-push (contents_with_number numbers old k) order id);
    } where
      by_case : (k : ℕ) → k < count → (k ≡ new_id) ⊎ (k ≢ new_id) → item_at kept' k
          ≡ option_or (first_some (contents_with_number numbers old k) order) (contents_with_number numbers old k id)
      by_case k below (inl e) =
          let none : first_some (contents_with_number numbers old k) order ≡ None =
          sym (is.each k below) ∙ ap (item_at kept) e ∙ has in
          let named' : slice_get numbers id ≡ Some k = named ∙ ap Some (sym e) in
          rw (none, contents_with_number-same numbers old id k named') (ap (item_at kept') e ∙ here)
      by_case k below (inr apart) =
          rw (
            contents_with_number-other numbers old id new_id k named apart,
            option_or-None (first_some (contents_with_number numbers old k) order),
          )
          (ap (λ xs. item_at xs k) put ∙ item_at-set_other kept new_id k (item_at now id) apart ∙ is.each k below)

    empty-left : AreLeft numbers old now' kept'
    empty-left x = by_case (cases_eq x id) (item_at old id) refl (left x)
      where
        by_case : (x ≡ id) ⊎ (x ≢ id) → (o : Option (List ℕ)) → item_at old id ≡ o
            → (item_at now x ≡ item_at old x)
            ⊎ ((number : ℕ) × (text : List ℕ) × (slice_get numbers x ≡ Some number) × (item_at kept number ≡ Some text))
            → (item_at now' x ≡ item_at old x) ⊎ ((number : ℕ) × (text : List ℕ) × (slice_get numbers x ≡ Some number)
            × (item_at kept' number ≡ Some text))
        by_case (inl e) None f h = inl (ap (item_at now') e ∙ ap (λ xs. item_at xs id) cleared ∙ item_at-cleared now id
            ∙ sym f ∙ ap (item_at old) (sym e))
        by_case (inl e) (Some text) f h = inr (new_id, text, ap (slice_get numbers) e ∙ named, here ∙ f)
        by_case (inr apart) o f (inl e) =
            inl (ap (λ xs. item_at xs x) cleared ∙ item_at-set_other now id x None apart ∙ e)
        by_case (inr apart) o f (inr (n, text, e, g)) =
            let other : n ≢ new_id =
            λ same. (let some : item_at kept new_id ≡ Some text = ap (item_at kept) (sym same) ∙ g in cc) in
            inr (n, text, e, ap (λ xs. item_at xs n) put ∙ item_at-set_other kept new_id n (item_at now id) other ∙ g)

  module _ (put : kept' ≡ cond (is_some (item_at kept new_id)) kept (slice_set kept new_id (item_at now id)))
      (cleared : now' ≡ cond (is_some (item_at kept new_id)) now (slice_set now id None)) where
    pub kept-more : AreKept numbers (order ++ id ∷ []) old count kept'
    kept-more = by_case (item_at kept new_id) refl
      where
        by_case : (o : Option (List ℕ)) → item_at kept new_id ≡ o → AreKept numbers (order ++ id ∷ []) old count kept'
        by_case None e = empty-kept e (rw e at put) (rw e at cleared)
        by_case (Some text) e = full-kept text e (rw e at put) (rw e at cleared)

    pub left-more : AreLeft numbers old now' kept'
    left-more = by_case (item_at kept new_id) refl
      where
        by_case : (o : Option (List ℕ)) → item_at kept new_id ≡ o → AreLeft numbers old now' kept'
        by_case None e = empty-left e (rw e at put) (rw e at cleared)
        by_case (Some text) e = full-left text e (rw e at put) (rw e at cleared)

-- `item_at xs i` is `Some` exactly if the item `o` that was read at index `i` of `xs` is `Some`
pub item_at-existing : (xs : List (Option (List ℕ))) (i : ℕ) (o : Option (List ℕ)) → i < length xs → o ≡ get_or xs i o
    → is_some (item_at xs i) ≡ is_some o
item_at-existing xs i o within read =
    ap (λ found. is_some (option_and_then (λ x. x) found)) (slice_get_read xs (length xs) i o refl within read)
