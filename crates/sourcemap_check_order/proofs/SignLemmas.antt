-- The sign of the first number of a segment.
use Rattle.std.proofs.Common.{◌≡◌, ℕ, zero, suc, ◌+◌, ◌*◌, ◌/◌, ◌%◌, ◌<◌, ◌==◌, Bool, true, false, not, List, [], ◌∷◌}
use Rattle.std.proofs.Common.{slice_index, slice_get, sym, ◌∙◌, ap, refl, subst, arith, pos, inl, inr, Some}
use Rattle.std.specs.Prelude.{◌&&◌, unwrap_or, int_lt, neg_ℤ}
use Rattle.std.specs.List.{list_any}
use Rattle.std.proofs.lemmas.Bool.{cases_Bool, cases_eq, eq-eqb, ne_eqb, or_parts, le-ltb}
use Rattle.sourcemap_vlq.specs.Vlq.{digit_value, data_of}
use Rattle.sourcemap_check_segments.specs.Segments.{continues, raws_of, value_of}
use Rattle.sourcemap_check_order.specs.Order.{goes_back}

-- a number ends with the byte
abbrev pub ends : ℕ → Bool
ends c = not (continues c)

below_zero : (half : ℕ) → 0 < half → int_lt (neg_ℤ (pos half)) (pos 0) ≡ true
below_zero zero h = absurd (omega arith)
below_zero (suc half) h = refl

not_below : (half : ℕ) → int_lt (pos half) (pos 0) ≡ false
not_below half = le-ltb half 0 (omega arith)

odd_is : (raw : ℕ) → raw % 2 ≡ 1 → int_lt (value_of raw) (pos 0) ≡ true
odd_is raw odd = elim (cases_eq raw 1) [
  | inl one ↦ rw (one) refl
  | inr more ↦
      let half : 0 < raw / 2 = omega arith in
      rw (ne_eqb raw 1 more, ne_eqb (raw % 2) 0 (λ e. absurd (omega arith))) (below_zero (raw / 2) half)
]

even_is : (raw : ℕ) → raw % 2 ≡ 0 → int_lt (value_of raw) (pos 0) ≡ false
even_is raw even =
    let other : raw ≡ 1 → ⊥ = λ e. absurd (omega arith) in
    rw (ne_eqb raw 1 other, eq-eqb (raw % 2) 0 even) (not_below (raw / 2))

-- a number is below 0 if its raw value is odd
pub negative_is : (raw : ℕ) → int_lt (value_of raw) (pos 0) ≡ (raw % 2 == 1)
negative_is raw = elim (cases_eq (raw % 2) 1) [
  | inl odd ↦ odd_is raw odd ∙ sym (eq-eqb (raw % 2) 1 odd)
  | inr even ↦ even_is raw (omega arith) ∙ sym (ne_eqb (raw % 2) 1 even)
]

raws_none : (bytes : List ℕ) → list_any ends bytes ≡ false → raws_of bytes ≡ []
raws_none [] h = refl
raws_none (c ∷ cs) h =
    let parts = or_parts (ends c) (list_any ends cs) h in
    let later : raws_of cs ≡ [] = raws_none cs parts.1 in
    let more : continues c ≡ true = elim (cases_Bool (continues c)) [
      | inl has ↦ has
      | inr lacks ↦ absurd (let e : not (continues c) ≡ true = rw lacks refl in let f = parts.0 in cc)
    ] in
    rw (more, later) refl

-- the first number of some digits, with one more digit at its front: the lowest bit is that of the new digit
same_bit : (low raw : ℕ) → (low + 32 * raw) % 2 ≡ low % 2
same_bit low raw = omega arith

low_bit : (value : ℕ) → value % 32 % 2 ≡ value % 2
low_bit value = omega arith

abbrev first_is_odd : List ℕ → Bool
first_is_odd bytes = slice_index (raws_of bytes) 0 % 2 == 1

raws_some : (bytes : List ℕ) → list_any ends bytes ≡ true → (raw : ℕ) × (raws : List ℕ) × (raws_of bytes ≡ raw ∷ raws)
raws_some [] h = absurd (let e = h in cc)
raws_some (c ∷ cs) h = elim (cases_Bool (continues c)) [
  | inl more ↦
      let later : list_any ends cs ≡ true = rw more at h in
      let rest = raws_some cs later in
      (data_of c + 32 * rest.0, rest.1, rw (more, rest.2) refl)
  | inr last ↦ (data_of c, raws_of cs, rw last refl)
]

bit_of_first : (c : ℕ) (cs : List ℕ) → list_any ends (c ∷ cs) ≡ true
    → slice_index (raws_of (c ∷ cs)) 0 % 2 ≡ unwrap_or (digit_value c) 0 % 2
bit_of_first c cs h = elim (cases_Bool (continues c)) [
  | inl more ↦
      let rest = raws_some cs (rw more at h) in
      rw (more, rest.2) (same_bit (data_of c) rest.0 ∙ low_bit (unwrap_or (digit_value c) 0))
  | inr last ↦ rw last (low_bit (unwrap_or (digit_value c) 0))
]

odd_and_some : (c : ℕ) (cs : List ℕ)
    → ((unwrap_or (digit_value c) 0 % 2 == 1) && list_any ends (c ∷ cs)) ≡ goes_back (c ∷ cs)
odd_and_some c cs = elim (cases_Bool (list_any ends (c ∷ cs))) [
  | inl some ↦
      rw some (and_true (unwrap_or (digit_value c) 0 % 2 == 1)
      ∙ (ap (λ n. n == 1) (sym (bit_of_first c cs some)) ∙ sym (negative_is (slice_index (raws_of (c ∷ cs)) 0))))
  | inr none ↦
      rw none (and_false (unwrap_or (digit_value c) 0 % 2 == 1)
      ∙ sym (ap (λ raws. int_lt (value_of (slice_index raws 0)) (pos 0)) (raws_none (c ∷ cs) none)))
]
  where
    and_true : (b : Bool) → (b && true) ≡ b
    and_true true = refl
    and_true false = refl

    and_false : (b : Bool) → (b && false) ≡ false
    and_false true = refl
    and_false false = refl

-- a segment goes back if its first digit is odd and it has a number
pub goes_back_is : (bytes : List ℕ) (c : ℕ) → slice_get bytes 0 ≡ Some c
    → ((unwrap_or (digit_value c) 0 % 2 == 1) && list_any ends bytes) ≡ goes_back bytes
goes_back_is [] c at = absurd (let e = at in cc)
goes_back_is (d ∷ cs) c at =
    let same : d ≡ c = let e = at in cc in
    subst (λ b. ((unwrap_or (digit_value b) 0 % 2 == 1) && list_any ends (d ∷ cs)) ≡ goes_back (d ∷ cs)) same
    (odd_and_some d cs)
