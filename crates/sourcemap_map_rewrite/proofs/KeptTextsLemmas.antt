-- The loop that moves texts to their new numbers, and the loop that finds the first old number of each text.
use Rattle.std.proofs.Common.{◌≡◌, ◌≢◌, refl, sym, ap, subst, ◌∙◌, ℕ, ◌+◌, ◌<◌, List, [], ◌∷◌, ◌++◌, length, map, take}
use Rattle.std.proofs.Common.{drop, get_or, Some, None, Option, arith, inl, inr, ◌⊎◌, slice_get, slice_set}
use Rattle.std.proofs.lemmas.Bool.{cases_eq}
use Rattle.std.proofs.lemmas.List.{take_more, drop_more, take-append-drop, length-map, map_push}
use Rattle.std.proofs.lemmas.Option.{slice_get_within, get_or_from_slice_get}
use Rattle.sourcemap_interning.specs.Interner.{id_of, with_text}
use Rattle.sourcemap_interning.proofs.InternerLemmas.{id_of-last, slice_get-id_of}
use Rattle.sourcemap_map_rewrite.specs.FirstIds.{first_of}
use Rattle.sourcemap_map_rewrite.specs.Numbering.{with_text_if, texts_in_use, seen_texts, IsSeen, AreNumbered}
use Rattle.sourcemap_map_rewrite.specs.declared.numbering.NewNumbers.{NewNumbers}
use Rattle.sourcemap_tokens.proofs.AllLemmas.{All-at}
use Rattle.sourcemap_map_rewrite.proofs.FirstIdsLemmas.{first_here}
use Rattle.sourcemap_interning.proofs.ItemLemmas.{slice_get-set_other}
use Rattle.sourcemap_map_rewrite.proofs.NumberingLemmas.{texts_in_use-push, id_of-with_text, id_of-texts_in_use}

-- each text is still at its old number, or is among the moved ones
abbrev pub AreLeftOrMoved : (old now moved : List (List ℕ)) → Type 0
AreLeftOrMoved old now moved = (id : ℕ) (text : List ℕ) → slice_get old id ≡ Some text
    → (slice_get now id ≡ Some text) ⊎ ((k : ℕ) × (id_of text moved ≡ Some k))

module _ (texts : List (List ℕ)) (n : NewNumbers) (is : AreNumbered texts n) (i id number : ℕ)
    (at : slice_get n.order.items i ≡ Some id) (numbered : slice_get n.numbers.items id ≡ Some number) where
  before : List (List ℕ)
  before = texts_in_use texts (take i n.order.items)

  after : List (List ℕ)
  after = texts_in_use texts (take (i + 1) n.order.items)

  seen : IsSeen texts n id
  seen = All-at (IsSeen texts n) n.order.items i id at is.seen

  with_next_text : after ≡ with_text before seen.text
  unfolding before after
  with_next_text =
      let item : get_or n.order.items i 0 ≡ id = get_or_from_slice_get n.order.items i id 0 at in
      ap (texts_in_use texts) (take_more n.order.items i 0 (slice_get_within n.order.items i id at)
      ∙ ap (λ x. take i n.order.items ++ x ∷ []) item)
      ∙ texts_in_use-push texts (take i n.order.items) id
      ∙ ap (with_text_if (texts_in_use texts (take i n.order.items))) seen.named

  same_number : seen.number ≡ number
  same_number = let e = seen.numbered in cc

  -- in `after`, the index of the text of `id` is `number`, the new number of `id`
  final : (k : ℕ) → id_of seen.text after ≡ Some k → k ≡ number
  unfolding after
  final k e =
      let last : id_of seen.text (seen_texts texts n) ≡ Some k =
      subst (λ all. id_of seen.text (texts_in_use texts all) ≡ Some k) (take-append-drop (i + 1) n.order.items)
      (id_of-texts_in_use texts (take (i + 1) n.order.items) (drop (i + 1) n.order.items) seen.text k e) in
      let interned = seen.interned in
      let same : k ≡ seen.number = cc in
      same ∙ same_number

  -- if `number` is the length of `before`, `before` does not contain the text of `id` yet
  new_text : number ≡ length before → id_of seen.text before ≡ None
  new_text next = by_case (id_of seen.text before) refl
    where
      by_case : (o : Option ℕ) → id_of seen.text before ≡ o → id_of seen.text before ≡ None
      by_case None e = e
      by_case (Some k) e =
          let same : k ≡ number =
          final k (ap (id_of seen.text) with_next_text ∙ id_of-with_text before seen.text seen.text k e) in
          let within : k < length before = slice_get_within before k seen.text (slice_get-id_of seen.text before k e) in
          absurd (omega arith)

  -- if `number` is not the length of `before`, `before` already contains the text of `id`
  old_text : number ≢ length before → (k : ℕ) × (id_of seen.text before ≡ Some k)
  old_text other = by_case (id_of seen.text before) refl
    where
      by_case : (o : Option ℕ) → id_of seen.text before ≡ o → (k : ℕ) × (id_of seen.text before ≡ Some k)
      by_case (Some k) e = (k, e)
      by_case None e =
          let added : with_text before seen.text ≡ before ++ seen.text ∷ [] = rw e refl in
          let interned : id_of seen.text after ≡ Some (length before) =
          ap (id_of seen.text) (with_next_text ∙ added) ∙ id_of-last before seen.text (length before) refl e in
          absurd (other (sym (final (length before) interned)))

  still_moved : (text : List ℕ) (k : ℕ) → id_of text before ≡ Some k → id_of text after ≡ Some k
  still_moved text k e = ap (id_of text) with_next_text ∙ id_of-with_text before seen.text text k e

  module _ (now moved : List (List ℕ)) (left_or_moved : AreLeftOrMoved texts now
      (texts_in_use texts (take i n.order.items))) (so_far : moved ≡ texts_in_use texts (take i n.order.items)) where
    -- `number` is the length of `moved`, so the step at index `i` moves the text `taken`, which `now` has at index `id`
    module _ (taken : List ℕ) (next : number ≡ length moved) (found : slice_get now id ≡ Some taken) where
      new : id_of seen.text before ≡ None
      unfolding before
      new = new_text (next ∙ ap length so_far)

      same_text : taken ≡ seen.text
      unfolding before
      same_text = by_case (left_or_moved id seen.text seen.named)
        where
          by_case : (slice_get now id ≡ Some seen.text) ⊎ ((k : ℕ)
              × (id_of seen.text (texts_in_use texts (take i n.order.items)) ≡ Some k)) → taken ≡ seen.text
          by_case (inl e) = cc
          by_case (inr (k, e)) = let none = new in cc

      added : after ≡ before ++ seen.text ∷ []
      added = with_next_text ∙ rw new refl

      pub moved-more : (moved' : List (List ℕ)) → moved' ≡ moved ++ taken ∷ []
          → moved' ≡ texts_in_use texts (take (i + 1) n.order.items)
      unfolding before after
      moved-more moved' e = e ∙ (λ j. so_far j ++ same_text j ∷ []) ∙ sym added

      pub left_or_moved-more : (now' : List (List ℕ)) → now' ≡ slice_set now id []
          → AreLeftOrMoved texts now' (texts_in_use texts (take (i + 1) n.order.items))
      unfolding before after
      left_or_moved-more now' e x text named = by_case (cases_eq x id) (left_or_moved x text named)
        where
          by_case : (x ≡ id) ⊎ (x ≢ id) → (slice_get now x ≡ Some text) ⊎ ((k : ℕ) × (id_of text before ≡ Some k))
              → (slice_get now' x ≡ Some text) ⊎ ((k : ℕ) × (id_of text after ≡ Some k))
          by_case (inl same) h =
              let this : slice_get texts id ≡ Some text = subst (λ y. slice_get texts y ≡ Some text) same named in
              let alike : seen.text ≡ text = let here = seen.named in cc in
              inr (
                length before,
                subst (λ t. id_of t after ≡ Some (length before)) alike
                    (ap (id_of seen.text) added ∙ id_of-last before seen.text (length before) refl new),
              )
          by_case (inr apart) (inl h) = inl (ap (λ xs. slice_get xs x) e ∙ slice_get-set_other now id x [] apart ∙ h)
          by_case (inr apart) (inr (k, h)) = inr (k, still_moved text k h)

    -- `number` is not the length of `moved`, so the step at index `i` moves no text
    module _ (other : number ≢ length moved) where
      old : (k : ℕ) × (id_of seen.text before ≡ Some k)
      unfolding before
      old = old_text (λ e. other (e ∙ ap length (sym so_far)))

      same : after ≡ before
      same = with_next_text ∙ rw old.1 refl

      pub moved-same : moved ≡ texts_in_use texts (take (i + 1) n.order.items)
      unfolding before after
      moved-same = so_far ∙ sym same

      pub left_or_moved-same : AreLeftOrMoved texts now (texts_in_use texts (take (i + 1) n.order.items))
      unfolding before after
      left_or_moved-same = subst (AreLeftOrMoved texts now) (sym same) left_or_moved

  -- The loop that finds the first old number of each text in use.

  module _ (ids : List ℕ)
      (so_far : ids ≡ map (first_of texts n.order.items) (texts_in_use texts (take i n.order.items))) where
    many : length ids ≡ length before
    unfolding before
    many = ap length so_far ∙ length-map (texts_in_use texts (take i n.order.items)) (first_of texts n.order.items)

    -- if `number` is the length of `ids`, the text of `id` is new, and `id` is the first old number of this text
    pub first-more : number ≡ length ids → (ids' : List ℕ) → ids' ≡ ids ++ id ∷ []
        → ids' ≡ map (first_of texts n.order.items) (texts_in_use texts (take (i + 1) n.order.items))
    unfolding before after
    first-more next ids' e =
        let new : id_of seen.text (texts_in_use texts (take i n.order.items)) ≡ None = new_text (next ∙ many) in
        let added : texts_in_use texts (take (i + 1) n.order.items)
        ≡ texts_in_use texts (take i n.order.items) ++ seen.text ∷ [] = with_next_text ∙ rw new refl in
        let item : get_or n.order.items i 0 ≡ id = get_or_from_slice_get n.order.items i id 0 at in
        let split : n.order.items ≡ take i n.order.items ++ id ∷ drop (i + 1) n.order.items =
        sym (take-append-drop i n.order.items)
        ∙ ap (λ xs. take i n.order.items ++ xs) (drop_more n.order.items i 0 (slice_get_within n.order.items i id at)
        ∙ ap (λ x. x ∷ drop (i + 1) n.order.items) item) in
        let here : first_of texts n.order.items seen.text ≡ id =
        ap (λ all. first_of texts all seen.text) split
        ∙ first_here texts (take i n.order.items) (drop (i + 1) n.order.items) id seen.text new seen.named in
        e ∙ (λ j. so_far j ++ sym here j ∷ [])
        ∙ sym (map_push (first_of texts n.order.items) (texts_in_use texts (take i n.order.items)) seen.text)
        ∙ ap (map (first_of texts n.order.items)) (sym added)

    pub first-same : number ≢ length ids
        → ids ≡ map (first_of texts n.order.items) (texts_in_use texts (take (i + 1) n.order.items))
    unfolding before after
    first-same other =
        let old = old_text (λ e. other (e ∙ sym many)) in
        let same : texts_in_use texts (take (i + 1) n.order.items) ≡ texts_in_use texts (take i n.order.items) =
        with_next_text ∙ rw old.1 refl in
        so_far ∙ ap (map (first_of texts n.order.items)) (sym same)
