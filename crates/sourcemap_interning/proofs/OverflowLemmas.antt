-- The numbers that an overflow has after one more text.
use Rattle.std.proofs.Common.{◌≡◌, refl, sym, ap, le_refl, subst, ◌∙◌, ℕ, zero, suc, ◌==◌, List, [], ◌∷◌, ◌++◌, length}
use Rattle.std.proofs.Common.{true, false, cond, Some, None, Option, is_some, Result, Ok, Err, OnOk, if◌then◌else◌}
use Rattle.std.proofs.Common.{is_ok, inl, inr, slice_get}
use Rattle.std.specs.Option.{option_or}
use Rattle.std.specs.Str.{bytes_eq}
use Rattle.std.proofs.lemmas.Bool.{cases_Bool}
use Rattle.std.proofs.lemmas.Bool.Decides.{Decides-eqb}
use Rattle.std.proofs.lemmas.Option.{slice_get_past}
use Rattle.std.proofs.lemmas.Slice.Eq.{bytes_eq-Decides}
use Rattle.sourcemap_interning.specs.Interner.{id_of, AreDistinct}
use Rattle.sourcemap_interning.specs.Overflow.{matching_number, number_by, sip_hash_of}
use Rattle.sourcemap_interning.specs.Texts.{is_text}
use Rattle.sourcemap_interning.proofs.InternerLemmas.{bytes_eq-refl, slice_get-append}

-- appending a text that differs from `other` does not change whether `other` is at `number`
is_text-append : (texts : List (List ℕ)) (text other : List ℕ) (number : ℕ) → bytes_eq text other ≡ false
    → is_text other (slice_get (texts ++ text ∷ []) number) ≡ is_text other (slice_get texts number)
is_text-append [] text other zero apart = apart
is_text-append [] text other (suc number) apart = refl
is_text-append (first ∷ texts) text other zero apart = refl
is_text-append (first ∷ texts) text other (suc number) apart = is_text-append texts text other number apart

matching_number-append : (texts : List (List ℕ)) (text other : List ℕ) (number : Option ℕ) → bytes_eq text other ≡ false
    → matching_number (texts ++ text ∷ []) other number ≡ matching_number texts other number
matching_number-append texts text other None apart = refl
matching_number-append texts text other (Some number) apart =
    ap (λ b. cond b (Some number) None) (is_text-append texts text other number apart)

is_text-last : (texts : List (List ℕ)) (text : List ℕ)
    → is_text text (slice_get (texts ++ text ∷ []) (length texts)) ≡ true
is_text-last [] text = bytes_eq-refl text
is_text-last (first ∷ texts) text = is_text-last texts text

matching_number-past : (texts : List (List ℕ)) (text : List ℕ) → matching_number texts text (Some (length texts)) ≡ None
matching_number-past texts text = rw (slice_get_past texts (length texts) (le_refl (length texts))) refl

-- a text that is there is the text
text-at : (text : List ℕ) (o : Option (List ℕ)) → is_text text o ≡ true → o ≡ Some text
text-at text None e = cc
text-at text (Some other) e = ap Some ((bytes_eq-Decides other text).0 e)

-- `texts` has the text at its matching number
matching_number-at : (texts : List (List ℕ)) (text : List ℕ) (number : Option ℕ) (n : ℕ)
    → matching_number texts text number ≡ Some n → slice_get texts n ≡ Some text
matching_number-at texts text None n e = cc
matching_number-at texts text (Some number) n e =
    elim (cases_Bool (is_text text (slice_get texts number))) [
      | inl h ↦
          let found : Some number ≡ Some n = sym (ap (λ b. cond b (Some number) None) h) ∙ e in
          let same : number ≡ n = cc in
          subst (λ m. slice_get texts m ≡ Some text) same (text-at text (slice_get texts number) h)
      | inr h ↦ let none : None ≡ Some n = sym (ap (λ b. cond b (Some number) None) h) ∙ e in cc
    ]

module _ (firsts : ℕ → Option ℕ) (rest : List ℕ → Option ℕ) (texts : List (List ℕ)) (text : List ℕ) where
  -- appending `text` to `texts` changes the number of no other text
  pub number_by-append : (other : List ℕ) → bytes_eq text other ≡ false
      → number_by firsts rest (texts ++ text ∷ []) other ≡ number_by firsts rest texts other
  number_by-append other apart =
      ap (λ o. option_or o (rest other)) (matching_number-append texts text other (firsts (sip_hash_of other)) apart)

  module _ (distinct : AreDistinct texts) (new : id_of text texts ≡ None) where
    not_at : (n : ℕ) → slice_get texts n ≡ Some text → ⊥
    not_at n at = let found : id_of text texts ≡ Some n = distinct text n at in cc

    at_last : (n : ℕ) → slice_get (texts ++ text ∷ []) n ≡ Some text → n ≡ length texts
    at_last n at = elim (slice_get-append texts text n text at) [ inl old ↦ absurd (not_at n old) | inr last ↦ last.0 ]

    -- If all numbers are right, a new text has none but the next.
    pub number_by-last : ((n : ℕ) → number_by firsts rest texts text ≡ Some n → slice_get texts n ≡ Some text)
        → (n : ℕ) → number_by firsts rest (texts ++ text ∷ []) text ≡ Some n → n ≡ length texts
    number_by-last right n = by_first (matching_number (texts ++ text ∷ []) text (firsts (sip_hash_of text))) refl
      where
        not_in_rest : (o : Option ℕ) → matching_number texts text (firsts (sip_hash_of text)) ≡ o
            → rest text ≡ Some n → ⊥
        not_in_rest None e there = not_at n (right n (ap (λ o. option_or o (rest text)) e ∙ there))
        not_in_rest (Some m) e there = not_at m (matching_number-at texts text (firsts (sip_hash_of text)) m e)

        by_first : (o : Option ℕ) → matching_number (texts ++ text ∷ []) text (firsts (sip_hash_of text)) ≡ o
            → option_or o (rest text) ≡ Some n → n ≡ length texts
        by_first None e there = absurd (not_in_rest (matching_number texts text (firsts (sip_hash_of text))) refl there)
        by_first (Some m) e here =
            let same : m ≡ n = cc in
            sym same ∙ at_last m (matching_number-at (texts ++ text ∷ []) text (firsts (sip_hash_of text)) m e)

    module _ (number : ℕ) (counted : length texts ≡ number) where
      -- `firsts` has no number for the SipHash of the new text, and gets the next one
      pub number_by-first : (firsts' : ℕ → Option ℕ) → firsts (sip_hash_of text) ≡ None
          → ((n : ℕ) → firsts' n ≡ cond (sip_hash_of text == n) (Some number) (firsts n))
          → (other : List ℕ) → number_by firsts' rest (texts ++ text ∷ []) other
          ≡ cond (bytes_eq text other) (Some number) (number_by firsts rest texts other)
      number_by-first firsts' free now other = elim (cases_Bool (bytes_eq text other)) [
        | inl h ↦
            let same : text ≡ other = (bytes_eq-Decides text other).0 h in
            subst (λ t. number_by firsts' rest (texts ++ text ∷ []) t ≡ Some number) same here
            ∙ sym (ap (λ b. cond b (Some number) (number_by firsts rest texts other)) h)
        | inr h ↦
            let kept : matching_number texts other (firsts' (sip_hash_of other)) ≡ matching_number texts other (firsts
            (sip_hash_of other)) = elim (cases_Bool (sip_hash_of text == sip_hash_of other)) [
              | inl e ↦
                  let at : firsts' (sip_hash_of other) ≡ Some (length texts) = now (sip_hash_of other)
                  ∙ ap (λ b. cond b (Some number) (firsts (sip_hash_of other))) e ∙ ap Some (sym counted) in
                  let none : firsts (sip_hash_of other) ≡ None =
                  subst (λ n. firsts n ≡ None) ((Decides-eqb (sip_hash_of text) (sip_hash_of other)).0 e) free in
                  rw (at, none) (matching_number-past texts other)
              | inr e ↦ ap (matching_number texts other) (now (sip_hash_of other)
                  ∙ ap (λ b. cond b (Some number) (firsts (sip_hash_of other))) e)
            ] in
            ap (λ o. option_or o (rest other))
            (matching_number-append texts text other (firsts' (sip_hash_of other)) h ∙ kept)
            ∙ sym (ap (λ b. cond b (Some number) (number_by firsts rest texts other)) h)
      ]
        where
          own : firsts' (sip_hash_of text) ≡ Some (length texts)
          own = now (sip_hash_of text) ∙ ap (λ b. cond b (Some number) (firsts (sip_hash_of text)))
              ((Decides-eqb (sip_hash_of text) (sip_hash_of text)).1 refl) ∙ ap Some (sym counted)

          here : number_by firsts' rest (texts ++ text ∷ []) text ≡ Some number
          here = rw (own, is_text-last texts text) (ap Some counted)

      -- `rest` gets the next number for the new text
      pub number_by-rest : (rest' : List ℕ → Option ℕ)
          → ((t : List ℕ) → rest' t ≡ cond (bytes_eq text t) (Some number) (rest t))
          → (other : List ℕ) → number_by firsts rest' (texts ++ text ∷ []) other
          ≡ cond (bytes_eq text other) (Some number) (number_by firsts rest texts other)
      number_by-rest rest' now other = elim (cases_Bool (bytes_eq text other)) [
        | inl h ↦
            let same : text ≡ other = (bytes_eq-Decides text other).0 h in
            subst (λ t. number_by firsts rest' (texts ++ text ∷ []) t ≡ Some number) same here
            ∙ sym (ap (λ b. cond b (Some number) (number_by firsts rest texts other)) h)
        | inr h ↦
            ap (option_or (matching_number (texts ++ text ∷ []) other (firsts (sip_hash_of other))))
            (now other ∙ ap (λ b. cond b (Some number) (rest other)) h)
            ∙ number_by-append other h ∙ sym (ap (λ b. cond b (Some number) (number_by firsts rest texts other)) h)
      ]
        where
          by_first : (o : Option ℕ) → matching_number (texts ++ text ∷ []) text (firsts (sip_hash_of text)) ≡ o
              → option_or o (rest' text) ≡ Some number
          by_first None e = now text ∙ ap (λ b. cond b (Some number) (rest text)) (bytes_eq-refl text)
          by_first (Some m) e =
              ap Some
              (at_last m (matching_number-at (texts ++ text ∷ []) text (firsts (sip_hash_of text)) m e) ∙ counted)

          here : number_by firsts rest' (texts ++ text ∷ []) text ≡ Some number
          here = by_first (matching_number (texts ++ text ∷ []) text (firsts (sip_hash_of text))) refl

      -- adding the new text to `rest` returned `result`
      pub number_by-rest_put : (rest' : List ℕ → Option ℕ) → {A E : Type 0} (result : Result A E)
          → ((t : List ℕ) → rest' t ≡ (if is_ok result then cond (bytes_eq text t) (Some number) (rest t) else rest t))
          → (other : List ℕ) → OnOk result (number_by firsts rest' (texts ++ text ∷ []) other
          ≡ cond (bytes_eq text other) (Some number) (number_by firsts rest texts other))
      number_by-rest_put rest' (Ok x) now other = number_by-rest rest' now other
      number_by-rest_put rest' (Err e) now other = tt

pub none_from : (o : Option ℕ) → is_some o ≡ false → o ≡ None
none_from None e = refl
none_from (Some n) e = cc
