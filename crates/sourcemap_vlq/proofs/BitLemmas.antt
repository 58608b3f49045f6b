-- The bits of a text, and the shortest text for a list of bits. A list of bits has at most one shortest text.
use Rattle.std.proofs.Common.{◌≡◌, ◌≢◌, ℕ, zero, suc, ◌+◌, ◌*◌, ◌/◌, ◌%◌, ◌^◌, ◌<◌, ◌≤◌, ◌==◌, Bool, true, false, List}
use Rattle.std.proofs.Common.{[], ◌∷◌, ◌++◌, length, take, drop, get_or, slice_get, Option, Some, None, unwrap_or, refl}
use Rattle.std.proofs.Common.{sym, ◌∙◌, ap, arith, inl, inr, if◌then◌else◌, Result, Ok, Err}
use Rattle.std.specs.Prelude.{is_none}
use Rattle.std.specs.List.{slice_index_or}
use Rattle.std.specs.Option.{option_and_then}
use Rattle.std.specs.Int.{bit_at}
use Rattle.std.proofs.lemmas.Nat.{shr_le}
use Rattle.std.proofs.lemmas.List.{length_push, take-append-drop, drop_more, take_more}
use Rattle.std.proofs.lemmas.Option.{slice_get_past}
use Rattle.std.proofs.lemmas.Bool.{cases_lt, eqb-true, eqb-false, eq-eqb, ne_eqb}
use Rattle.sourcemap_errors.specs.declared.errors.Error.{Error}
use Rattle.sourcemap_errors.specs.declared.errors.Error.TheVariants.{InvalidBase64}
use Rattle.sourcemap_vlq.specs.Vlq.{digit_value, glyph}
use Rattle.sourcemap_vlq.specs.Bits.{value_at, bit_of, six_of, first_non_digit, IsNonDigitError, AreBitsOf, BitAnswers}
use Rattle.sourcemap_vlq.specs.Bits.{IsBitText}
use Rattle.sourcemap_vlq.proofs.DigitLemmas.{digit_value-below, glyph-digit_value, digit_value-glyph}

-- ---- the first byte that is not a digit

first_digit : (c : ℕ) (cs : List ℕ) → first_non_digit (c ∷ cs) ≡ None
    → (v : ℕ) × (digit_value c ≡ Some v) × (first_non_digit cs ≡ None)
first_digit c cs none = of_value (digit_value c) refl none where
  of_value : (o : Option ℕ) → digit_value c ≡ o → (if is_none o then Some c else first_non_digit cs) ≡ None
      → (v : ℕ) × (digit_value c ≡ Some v) × (first_non_digit cs ≡ None)
  of_value None e h = absurd (cc h)
  of_value (Some v) e h = (v, e, h)

pub first_non_digit-push : (xs : List ℕ) (c v : ℕ) → first_non_digit xs ≡ None → digit_value c ≡ Some v
    → first_non_digit (xs ++ c ∷ []) ≡ None
first_non_digit-push [] c v none e = rw e refl
first_non_digit-push (x ∷ xs) c v none e =
    let first = first_digit x xs none in
    rw first.1 (first_non_digit-push xs c v first.2 e)

pub first_non_digit-at : (xs ys : List ℕ) (c : ℕ) → first_non_digit xs ≡ None → digit_value c ≡ None
    → first_non_digit (xs ++ c ∷ ys) ≡ Some c
first_non_digit-at [] ys c none e = rw e refl
first_non_digit-at (x ∷ xs) ys c none e =
    let first = first_digit x xs none in
    rw first.1 (first_non_digit-at xs ys c first.2 e)

pub IsNonDigitError-at : (text : List ℕ) (n c : ℕ) → n < length text → first_non_digit (take n text) ≡ None
    → get_or text n 0 ≡ c → digit_value c ≡ None
    → IsNonDigitError text (InvalidBase64 c)
IsNonDigitError-at text n c h none at e =
    let split : text ≡ take n text ++ c ∷ drop (n + 1) text =
    sym (take-append-drop n text)
    ∙ (ap (λ rest. take n text ++ rest) (drop_more text n 0 h) ∙ ap (λ x. take n text ++ x ∷ drop (n + 1) text) at) in
    (c, ap first_non_digit split ∙ first_non_digit-at (take n text) (drop (n + 1) text) c none e, refl)

pub first_non_digit-more : (text : List ℕ) (n v : ℕ) → n < length text → first_non_digit (take n text) ≡ None
    → digit_value (get_or text n 0) ≡ Some v
    → first_non_digit (take (n + 1) text) ≡ None
first_non_digit-more text n v h none e =
    ap first_non_digit (take_more text n 0 h) ∙ first_non_digit-push (take n text) (get_or text n 0) v none e

-- ---- the bits of all digits

abbrev pub bits_of : List ℕ → List Bool
bits_of [] = []
bits_of (c ∷ cs) = six_of (unwrap_or (digit_value c) 0) ++ bits_of cs

pub bits_of-push : (xs : List ℕ) (c v : ℕ) → digit_value c ≡ Some v → bits_of (xs ++ c ∷ []) ≡ bits_of xs ++ six_of v
bits_of-push [] c v e = rw e refl
bits_of-push (x ∷ xs) c v e =
    ap (λ rest. six_of (unwrap_or (digit_value x) 0) ++ rest) (bits_of-push xs c v e)

pub bits_of-more : (text : List ℕ) (n v : ℕ) → n < length text → digit_value (get_or text n 0) ≡ Some v
    → bits_of (take (n + 1) text) ≡ bits_of (take n text) ++ six_of v
bits_of-more text n v h e = ap bits_of (take_more text n 0 h) ∙ bits_of-push (take n text) (get_or text n 0) v e

length-bits_of : (xs : List ℕ) → length (bits_of xs) ≡ 6 * length xs
length-bits_of [] = refl
length-bits_of (x ∷ xs) = let rest : length (bits_of xs) ≡ 6 * length xs = length-bits_of xs in omega arith

slice_get-bits_of : (xs : List ℕ) (j : ℕ) → j < 6 * length xs → slice_get (bits_of xs) j ≡ Some (bit_of xs j)
slice_get-bits_of [] j h = absurd (omega arith)
slice_get-bits_of (x ∷ xs) zero h = refl
slice_get-bits_of (x ∷ xs) (suc zero) h = refl
slice_get-bits_of (x ∷ xs) (suc (suc zero)) h = refl
slice_get-bits_of (x ∷ xs) (suc (suc (suc zero))) h = refl
slice_get-bits_of (x ∷ xs) (suc (suc (suc (suc zero)))) h = refl
slice_get-bits_of (x ∷ xs) (suc (suc (suc (suc (suc zero))))) h = refl
slice_get-bits_of (x ∷ xs) (suc (suc (suc (suc (suc (suc j)))))) h =
    let q : suc (suc (suc (suc (suc (suc j))))) / 6 ≡ suc (j / 6) = omega arith in
    let r : suc (suc (suc (suc (suc (suc j))))) % 6 ≡ j % 6 = omega arith in
    slice_get-bits_of xs j (omega arith) ∙ rw (q, r) refl

pub AreBitsOf-bits_of : (text : List ℕ) → first_non_digit text ≡ None → AreBitsOf text (bits_of text)
AreBitsOf-bits_of text none =
    let len : length (bits_of text) ≡ 6 * length text = length-bits_of text in
    record { digits = none; six_a_digit = len; each = λ j h. slice_get-bits_of text j (omega arith) }

same_lists : {X : Type 0} (xs ys : List X) → length xs ≡ length ys
    → ((j : ℕ) → j < length xs → slice_get xs j ≡ slice_get ys j) → xs ≡ ys
same_lists [] [] len same = refl
same_lists [] (y ∷ ys) len same = absurd (omega arith)
same_lists (x ∷ xs) [] len same = absurd (omega arith)
same_lists (x ∷ xs) (y ∷ ys) len same =
    let first : Some x ≡ Some y = same 0 (omega arith) in
    let rest : xs ≡ ys = same_lists xs ys (omega arith) (λ j h. same (suc j) (omega arith)) in
    cc (first, rest)

-- decoding a text to bits has at most one result
pub BitAnswers-same : (text : List ℕ) (a b : Result (List Bool) Error) → BitAnswers text a → BitAnswers text b → a ≡ b
BitAnswers-same text (Ok a) (Ok b) of_a of_b =
    let len : length a ≡ length b = of_a.six_a_digit ∙ sym of_b.six_a_digit in
    ap Ok (same_lists a b len (λ j h. of_a.each j h ∙ sym (of_b.each j (omega arith))))
BitAnswers-same text (Ok a) (Err e) of_a of_b = let clash : Some of_b.0 ≡ None = sym of_b.1 ∙ of_a.digits in
    absurd (cc clash)
BitAnswers-same text (Err e) (Ok b) of_a of_b = let clash : Some of_a.0 ≡ None = sym of_a.1 ∙ of_b.digits in
    absurd (cc clash)
BitAnswers-same text (Err e) (Err f) of_a of_b =
    let same : Some of_a.0 ≡ Some of_b.0 = sym of_a.1 ∙ of_b.1 in
    let byte : of_a.0 ≡ of_b.0 = cc same in
    ap Err (of_a.2 ∙ (ap InvalidBase64 byte ∙ sym of_b.2))

-- ---- the digits of bits

-- appending a byte `c` to `xs` does not change the values of the digits of `xs`
value_at-front : (xs : List ℕ) (c k : ℕ) → k < length xs → value_at (xs ++ c ∷ []) k ≡ value_at xs k
value_at-front [] c k h = absurd (omega arith)
value_at-front (x ∷ xs) c zero h = refl
value_at-front (x ∷ xs) c (suc k) h = value_at-front xs c k (omega arith)

value_at-last : (xs : List ℕ) (c v : ℕ) → digit_value c ≡ Some v → value_at (xs ++ c ∷ []) (length xs) ≡ v
value_at-last [] c v e = rw e refl
value_at-last (x ∷ xs) c v e = value_at-last xs c v e

value_at-past : (xs : List ℕ) (k : ℕ) → length xs ≤ k → value_at xs k ≡ 0
value_at-past xs k h = ap (λ o. unwrap_or (option_and_then digit_value o) 0) (slice_get_past xs k h)

value_at-below : (xs : List ℕ) (k : ℕ) → value_at xs k < 64
value_at-below xs k = at_most (slice_get xs k) where
  at_most : (o : Option ℕ) → unwrap_or (option_and_then digit_value o) 0 < 64
  at_most None = omega arith
  at_most (Some c) = of_digit (digit_value c) (λ v e. digit_value-below c v e) where
    of_digit : (o : Option ℕ) → ((v : ℕ) → o ≡ Some v → v < 64) → unwrap_or o 0 < 64
    of_digit None below = omega arith
    of_digit (Some v) below = below v refl

bit_at-zero : (k : ℕ) → (bit_at 0 k == 1) ≡ false
bit_at-zero k =
    let none : 0 / 2 ^ k ≤ 0 = shr_le 0 k in
    let e : 0 / 2 ^ k ≡ 0 = omega arith in
    rw e refl

bit_of-none : (text : List ℕ) (j : ℕ) → value_at text (j / 6) ≡ 0 → bit_of text j ≡ false
bit_of-none text j e = ap (λ v. bit_at v (j % 6) == 1) e ∙ bit_at-zero (j % 6)

pub bit_of-past : (text : List ℕ) (j : ℕ) → length text ≤ j / 6 → bit_of text j ≡ false
bit_of-past text j h = bit_of-none text j (value_at-past text (j / 6) h)

-- six bits, each times its weight, sum to a value with these bits
pub value_of_bits : (bits : ℕ → Bool) (a b c d e f : ℕ) → a ≤ 1 → b ≤ 1 → c ≤ 1 → d ≤ 1 → e ≤ 1 → f ≤ 1
    → (a == 1) ≡ bits 0 → (b == 1) ≡ bits 1 → (c == 1) ≡ bits 2 → (d == 1) ≡ bits 3 → (e == 1) ≡ bits 4
    → (f == 1) ≡ bits 5
    → (k : ℕ) → k < 6 → (bit_at (a + 2 * b + 4 * c + 8 * d + 16 * e + 32 * f) k == 1) ≡ bits k
value_of_bits bits a b c d e f la lb lc ld le lf ea eb ec ed ee ef zero h =
    let same : (a + 2 * b + 4 * c + 8 * d + 16 * e + 32 * f) / 1 % 2 ≡ a = omega arith in ap (λ v. v == 1) same ∙ ea
value_of_bits bits a b c d e f la lb lc ld le lf ea eb ec ed ee ef (suc zero) h =
    let same : (a + 2 * b + 4 * c + 8 * d + 16 * e + 32 * f) / 2 % 2 ≡ b = omega arith in ap (λ v. v == 1) same ∙ eb
value_of_bits bits a b c d e f la lb lc ld le lf ea eb ec ed ee ef (suc (suc zero)) h =
    let same : (a + 2 * b + 4 * c + 8 * d + 16 * e + 32 * f) / 4 % 2 ≡ c = omega arith in ap (λ v. v == 1) same ∙ ec
value_of_bits bits a b c d e f la lb lc ld le lf ea eb ec ed ee ef (suc (suc (suc zero))) h =
    let same : (a + 2 * b + 4 * c + 8 * d + 16 * e + 32 * f) / 8 % 2 ≡ d = omega arith in ap (λ v. v == 1) same ∙ ed
value_of_bits bits a b c d e f la lb lc ld le lf ea eb ec ed ee ef (suc (suc (suc (suc zero)))) h =
    let same : (a + 2 * b + 4 * c + 8 * d + 16 * e + 32 * f) / 16 % 2 ≡ e = omega arith in ap (λ v. v == 1) same ∙ ee
value_of_bits bits a b c d e f la lb lc ld le lf ea eb ec ed ee ef (suc (suc (suc (suc (suc zero))))) h =
    let same : (a + 2 * b + 4 * c + 8 * d + 16 * e + 32 * f) / 32 % 2 ≡ f = omega arith in ap (λ v. v == 1) same ∙ ef
value_of_bits bits a b c d e f la lb lc ld le lf ea eb ec ed ee ef (suc (suc (suc (suc (suc (suc k)))))) h =
    absurd (omega arith)

-- each byte of `part` is a digit; bit `j` of `part` is bit `j` of `bits`, or false past the end of `bits`
pub record Begins (bits : List Bool) (part : List ℕ) : Type 0 where
  pub digits : first_non_digit part ≡ None
  pub each : (j : ℕ) → j < 6 * length part → bit_of part j ≡ slice_index_or bits j false

pub Begins-push : (bits : List Bool) (part : List ℕ) (v : ℕ) → Begins bits part → v < 64
    → ((k : ℕ) → k < 6 → (bit_at v k == 1) ≡ slice_index_or bits (6 * length part + k) false)
    → Begins bits (part ++ glyph v ∷ [])
Begins-push bits part v begins low six =
    let e : digit_value (glyph v) ≡ Some v = digit_value-glyph v low in
    let len : length (part ++ glyph v ∷ []) ≡ length part + 1 = length_push part (glyph v) in
    record {
      digits = first_non_digit-push part (glyph v) v begins.digits e;
      each = λ j h. elim (cases_lt j (6 * length part)) [
        | inl before ↦
            let at : j / 6 < length part = omega arith in
            ap (λ w. bit_at w (j % 6) == 1) (value_at-front part (glyph v) (j / 6) at) ∙ begins.each j before
        | inr here ↦
            let q : j / 6 ≡ length part = omega arith in
            let index : 6 * length part + j % 6 ≡ j = omega arith in
            let value : value_at (part ++ glyph v ∷ []) (j / 6) ≡ v =
            ap (λ k. value_at (part ++ glyph v ∷ []) k) q ∙ value_at-last part (glyph v) v e in
            ap (λ w. bit_at w (j % 6) == 1) value
            ∙ (six (j % 6) (omega arith) ∙ ap (λ k. slice_index_or bits k false) index)
      ];
    }

pub IsBitText-whole : (bits : List Bool) (part : List ℕ) (count : ℕ) → Begins bits part → length part ≡ count
    → ((j : ℕ) → 6 * count ≤ j → slice_index_or bits j false ≡ false)
    → (0 < count → (j : ℕ) × (j / 6 + 1 ≡ count) × (slice_index_or bits j false ≡ true))
    → IsBitText bits part
IsBitText-whole bits part count begins len rest last = record {
  digits = begins.digits;
  each = λ j. elim (cases_lt j (6 * length part)) [
    | inl within ↦ begins.each j within
    | inr past ↦ bit_of-past part j (omega arith) ∙ sym (rest j (omega arith))
  ];
  short = λ k e zero_value.
      let l : (j : ℕ) × (j / 6 + 1 ≡ count) × (slice_index_or bits j false ≡ true) = last (omega arith) in
      let at : l.0 / 6 ≡ k = omega (arith, l.1) in
      let set : bit_of part l.0 ≡ true = begins.each l.0 (omega (arith, l.1)) ∙ l.2 in
      let unset : bit_of part l.0 ≡ false = bit_of-none part l.0 (ap (λ i. value_at part i) at ∙ zero_value) in
      let clash : true ≡ false = sym set ∙ unset in
      cc clash;
}

-- ---- bits have at most one shortest text

same_bit : (m n : ℕ) → m < 2 → n < 2 → (m == 1) ≡ (n == 1) → m ≡ n
same_bit m n h i e = elim (cases_lt m 1) [
  | inl zero_bit ↦
      let no : (n == 1) ≡ false = sym e ∙ ne_eqb m 1 (λ one. omega arith) in
      let ne : n ≢ 1 = eqb-false n 1 no in
      omega arith
  | inr one_bit ↦
      let yes : (n == 1) ≡ true = sym e ∙ eq-eqb m 1 (omega arith) in
      let one : n ≡ 1 = eqb-true n 1 yes in
      omega arith
]

same_value : (v w : ℕ) → v < 64 → w < 64 → ((k : ℕ) → k < 6 → (bit_at v k == 1) ≡ (bit_at w k == 1)) → v ≡ w
same_value v w lv lw same =
    let b0 : v / 1 % 2 ≡ w / 1 % 2 =
    same_bit (v / 1 % 2) (w / 1 % 2) (omega arith) (omega arith) (same 0 (omega arith)) in
    let b1 : v / 2 % 2 ≡ w / 2 % 2 =
    same_bit (v / 2 % 2) (w / 2 % 2) (omega arith) (omega arith) (same 1 (omega arith)) in
    let b2 : v / 4 % 2 ≡ w / 4 % 2 =
    same_bit (v / 4 % 2) (w / 4 % 2) (omega arith) (omega arith) (same 2 (omega arith)) in
    let b3 : v / 8 % 2 ≡ w / 8 % 2 =
    same_bit (v / 8 % 2) (w / 8 % 2) (omega arith) (omega arith) (same 3 (omega arith)) in
    let b4 : v / 16 % 2 ≡ w / 16 % 2 =
    same_bit (v / 16 % 2) (w / 16 % 2) (omega arith) (omega arith) (same 4 (omega arith)) in
    let b5 : v / 32 % 2 ≡ w / 32 % 2 =
    same_bit (v / 32 % 2) (w / 32 % 2) (omega arith) (omega arith) (same 5 (omega arith)) in
    omega arith

values-same : (a b : List ℕ) → ((j : ℕ) → bit_of a j ≡ bit_of b j) → (k : ℕ) → value_at a k ≡ value_at b k
values-same a b same k =
    same_value (value_at a k) (value_at b k) (value_at-below a k) (value_at-below b k) (λ i h.
    let q : (6 * k + i) / 6 ≡ k = omega arith in
    let r : (6 * k + i) % 6 ≡ i = omega arith in
    let bit : bit_of a (6 * k + i) ≡ bit_of b (6 * k + i) = same (6 * k + i) in
    rw (q, r) at bit)

not_shorter : (a b : List ℕ) → ((k : ℕ) → value_at a k ≡ value_at b k) → ((k : ℕ) → length b ≡ k + 1 → value_at b k ≢ 0)
    → length b ≤ length a
not_shorter a [] same short = omega arith
not_shorter a (c ∷ cs) same short = elim (cases_lt (length a) (length (c ∷ cs))) [
  | inl less ↦
      absurd (short (length cs) (omega arith) (sym (same (length cs)) ∙ value_at-past a (length cs) (omega arith)))
  | inr more ↦ more
]

digits-same : (a b : List ℕ) → first_non_digit a ≡ None → first_non_digit b ≡ None → length a ≡ length b
    → ((k : ℕ) → value_at a k ≡ value_at b k) → a ≡ b
digits-same [] [] of_a of_b len same = refl
digits-same [] (d ∷ ds) of_a of_b len same = absurd (omega arith)
digits-same (c ∷ cs) [] of_a of_b len same = absurd (omega arith)
digits-same (c ∷ cs) (d ∷ ds) of_a of_b len same =
    let left = first_digit c cs of_a in
    let right = first_digit d ds of_b in
    let head_value : unwrap_or (digit_value c) 0 ≡ unwrap_or (digit_value d) 0 = same 0 in
    let left_value : unwrap_or (digit_value c) 0 ≡ left.0 = ap (λ o. unwrap_or o 0) left.1 in
    let right_value : unwrap_or (digit_value d) 0 ≡ right.0 = ap (λ o. unwrap_or o 0) right.1 in
    let value : left.0 ≡ right.0 = sym left_value ∙ (head_value ∙ right_value) in
    let head : c ≡ d =
    sym (glyph-digit_value c left.0 left.1) ∙ (ap glyph value ∙ glyph-digit_value d right.0 right.1) in
    let rest : cs ≡ ds = digits-same cs ds left.2 right.2 (omega arith) (λ k. same (suc k)) in
    cc (head, rest)

pub IsBitText-same : (bits : List Bool) (a b : List ℕ) → IsBitText bits a → IsBitText bits b → a ≡ b
IsBitText-same bits a b of_a of_b =
    let values : (k : ℕ) → value_at a k ≡ value_at b k = values-same a b (λ j. of_a.each j ∙ sym (of_b.each j)) in
    let one_way : length b ≤ length a = not_shorter a b values of_b.short in
    let other_way : length a ≤ length b = not_shorter b a (λ k. sym (values k)) of_a.short in
    digits-same a b of_a.digits of_b.digits (omega arith) values
