-- Numbers as groups of digits, which are read and written one digit at a time. Decoding a text has at most one result.
-- Encoding a list of numbers has at most one result.
use Rattle.std.proofs.Common.{◌≡◌, ◌≢◌, ℕ, zero, suc, ◌+◌, ◌*◌, ◌/◌, ◌%◌, ◌^◌, ◌<◌, ◌≤◌, ◌==◌, ◌&&◌, ◌||◌, Bool, true}
use Rattle.std.proofs.Common.{false, nat_lt, nat_le, List, [], ◌∷◌, ◌++◌, length, take, drop, get_or, Option, Some}
use Rattle.std.proofs.Common.{None, unwrap_or, refl, sym, ◌∙◌, ap, subst, arith, inl, inr, ◌⊎◌, if◌then◌else◌, Result}
use Rattle.std.proofs.Common.{Ok, Err, ℤ, pos, negsuc, unsigned_abs, Any}
use Rattle.std.specs.List.{AllByRecursion}
use lib.IntN.{neg_ℤ}
use lib.Signed.{lt_z}
use mir.Val.{bool_byte}
use Rattle.std.proofs.Math.Pow.{pow_mono}
use Rattle.std.proofs.lemmas.Nat.{pow-add, pow_pos, mul-le}
use Rattle.std.proofs.lemmas.List.{length_push, length-append, append-nil, append_assoc, take_more, take-append-drop}
use Rattle.std.proofs.lemmas.List.{drop_more, length-take-le, get_or_default}
use Rattle.std.proofs.lemmas.Bool.{and_parts, and_from, or_cases, or_parts, and_cases, cases_lt, cases_eq, eqb-true}
use Rattle.std.proofs.lemmas.Bool.{eqb-false, leb-true, ltb-true, ltb-false, lt-ltb, le-leb, le-ltb, false_from_ne_true}
use Rattle.std.proofs.lemmas.List.Elements.{All-from_recursion}
use Rattle.sourcemap_errors.specs.declared.errors.Error.{Error}
use Rattle.sourcemap_errors.specs.declared.errors.Error.TheVariants.{VlqLeftover, VlqNoValues, VlqOverflow}
use Rattle.sourcemap_errors.specs.declared.errors.Error.TheVariants.{InvalidBase64}
use Rattle.sourcemap_vlq.specs.Vlq.{digit_value, glyph, HasContinuation, IsLast, data_of, raw_of, number_of, IsChain}
use Rattle.sourcemap_vlq.specs.Vlq.{FitsOneNumber, IsGroup, Reads, IsUnfinished, GoesTo, NumberError, BeginsWith}
use Rattle.sourcemap_vlq.specs.Vlq.{IsSound, HasError, SegmentAnswers, IsShortest, Spells, IsTooLarge, SpellingAnswers}
use Rattle.sourcemap_errors.specs.Answer.{UnlessMemory}
use Rattle.sourcemap_errors.proofs.AnswerLemmas.{UnlessMemory-weaker}
use Rattle.sourcemap_vlq.proofs.DigitLemmas.{digit_value-below, glyph-digit_value, digit_value-glyph}

digit_value_cases : (c : ℕ) → (digit_value c ≡ None) ⊎ ((v : ℕ) × (digit_value c ≡ Some v))
digit_value_cases c = some_cases (digit_value c) where
  some_cases : (o : Option ℕ) → (o ≡ None) ⊎ ((v : ℕ) × (o ≡ Some v))
  some_cases None = inl refl
  some_cases (Some v) = inr (v, refl)

-- ---- sequences of digits

-- the weight of a digit is 32 times that of the digit before it
weight-suc : (n : ℕ) → 2 ^ (5 * suc n) ≡ 32 * 2 ^ (5 * n)
weight-suc n =
    let e : 5 * suc n ≡ 5 + 5 * n = omega arith in
    ap (λ k. 2 ^ k) e ∙ pow-add 2 5 (5 * n)

pub raw_of-append : (xs ys : List ℕ) → raw_of (xs ++ ys) ≡ raw_of xs + 2 ^ (5 * length xs) * raw_of ys
raw_of-append [] ys = omega arith
raw_of-append (x ∷ xs) ys =
    let rest : raw_of (xs ++ ys) ≡ raw_of xs + 2 ^ (5 * length xs) * raw_of ys = raw_of-append xs ys in
    let w : 2 ^ (5 * suc (length xs)) ≡ 32 * 2 ^ (5 * length xs) = weight-suc (length xs) in
    rw (rest, w) (omega arith)

pub raw_of-push : (xs : List ℕ) (c : ℕ) → raw_of (xs ++ c ∷ []) ≡ raw_of xs + 2 ^ (5 * length xs) * data_of c
raw_of-push xs c = rw raw_of-append (omega arith)

pub raw_of-below : (xs : List ℕ) → raw_of xs < 2 ^ (5 * length xs)
raw_of-below [] = omega arith
raw_of-below (x ∷ xs) =
    let rest : raw_of xs < 2 ^ (5 * length xs) = raw_of-below xs in
    let small : data_of x < 32 = omega arith in
    rw weight-suc (omega arith)

pub HasContinuation-push : (xs : List ℕ) (c : ℕ) → AllByRecursion HasContinuation xs → HasContinuation c
    → AllByRecursion HasContinuation (xs ++ c ∷ [])
HasContinuation-push [] c all here = (here, tt)
HasContinuation-push (x ∷ xs) c all here = (all.0, HasContinuation-push xs c all.1 here)

pub IsChain-push : (xs : List ℕ) (c : ℕ) → AllByRecursion HasContinuation xs → IsLast c → IsChain (xs ++ c ∷ [])
IsChain-push [] c all last = last
IsChain-push (x ∷ []) c all last = (all.0, last)
IsChain-push (x ∷ y ∷ xs) c all last = (all.0, IsChain-push (y ∷ xs) c all.1 last)

-- let `part` be an unfinished number (`IsUnfinished`), and let the digit `c` follow `part`. `fits_in_number` returns
-- true for the index and the data bits of `c` if and only if `part` followed by `c` fits one number (`FitsOneNumber`)
pub fits_in_number-small : (part : List ℕ) (c n : ℕ) → IsUnfinished part → n ≡ length part
    → (nat_lt n 12 || ((n == 12) && nat_lt (data_of c) 8)) ≡ true → FitsOneNumber (part ++ c ∷ [])
fits_in_number-small part c n unfinished e within =
    let below : raw_of part < 2 ^ (5 * length part) = raw_of-below part in
    let len : length (part ++ c ∷ []) ≡ length part + 1 = length_push part c in
    let raw : raw_of (part ++ c ∷ []) ≡ raw_of part + 2 ^ (5 * length part) * data_of c = raw_of-push part c in
    let under : raw_of (part ++ c ∷ []) < 2 ^ (5 * length (part ++ c ∷ [])) = raw_of-below (part ++ c ∷ []) in
    elim (or_cases (nat_lt n 12) ((n == 12) && nat_lt (data_of c) 8) within) [
      | inl early ↦
          let lt : n < 12 = ltb-true n 12 early in
          let mono : 2 ^ (5 * length (part ++ c ∷ [])) ≤ 2 ^ 60 =
          pow_mono {i = 5 * length (part ++ c ∷ [])} {j = 60} (omega arith) in
          record { few = omega arith; small = omega arith }
      | inr twelfth ↦
          let parts = and_parts (n == 12) (nat_lt (data_of c) 8) twelfth in
          let at : length part ≡ 12 = sym e ∙ eqb-true n 12 parts.0 in
          let bits : data_of c < 8 = ltb-true (data_of c) 8 parts.1 in
          let w : 2 ^ (5 * length part) ≡ 2 ^ 60 = ap (λ k. 2 ^ (5 * k)) at in
          let raw' : raw_of (part ++ c ∷ []) ≡ raw_of part + 2 ^ 60 * data_of c = rw (← w) raw in
          record { few = omega arith; small = omega arith }
    ]

pub fits_in_number-great : (part : List ℕ) (c n : ℕ) → n ≡ length part
    → (nat_lt n 12 || ((n == 12) && nat_lt (data_of c) 8)) ≡ false → FitsOneNumber (part ++ c ∷ []) → ⊥
fits_in_number-great part c n e within small =
    let len : length (part ++ c ∷ []) ≡ length part + 1 = length_push part c in
    let raw : raw_of (part ++ c ∷ []) ≡ raw_of part + 2 ^ (5 * length part) * data_of c = raw_of-push part c in
    let parts = or_parts (nat_lt n 12) ((n == 12) && nat_lt (data_of c) 8) within in
    let late : 12 ≤ n = ltb-false n 12 parts.0 in
    elim (and_cases (n == 12) (nat_lt (data_of c) 8) parts.1) [
      | inl later ↦
          let ne : n ≢ 12 = eqb-false n 12 later in
          omega (arith, small.few)
      | inr twelfth ↦
          let many : 8 ≤ data_of c = ltb-false (data_of c) 8 twelfth in
          elim (cases_eq n 12) [
            | inl at ↦
                let w : 2 ^ (5 * length part) ≡ 2 ^ 60 = ap (λ k. 2 ^ (5 * k)) (sym e ∙ at) in
                let raw' : raw_of (part ++ c ∷ []) ≡ raw_of part + 2 ^ 60 * data_of c = rw (← w) raw in
                omega (arith, small.small)
            | inr ne ↦ omega (arith, small.few)
          ]
    ]

-- ---- one number, read from the left

pub data_of-digit : (c v : ℕ) → digit_value c ≡ Some v → data_of c ≡ v % 32
data_of-digit c v e = ap (λ o. unwrap_or o 0 % 32) e

pub IsUnfinished-nil : IsUnfinished []
IsUnfinished-nil = record { continues = tt; fits = record { few = omega arith; small = omega arith } }

split_at : (text : List ℕ) (n : ℕ) → n < length text → text ≡ take n text ++ get_or text n 0 ∷ drop (n + 1) text
split_at text n h = sym (take-append-drop n text) ∙ ap (λ rest. take n text ++ rest) (drop_more text n 0 h)

pub GoesTo-at : (text : List ℕ) (n : ℕ) → n < length text → IsUnfinished (take n text)
    → GoesTo text (take n text) (get_or text n 0)
GoesTo-at text n h unfinished = record { more = drop (n + 1) text; split = split_at text n h; unfinished = unfinished }

-- a digit that has the continuation bit and does not overflow extends an unfinished number
pub IsUnfinished-more : (text : List ℕ) (n v : ℕ) → n < length text → IsUnfinished (take n text)
    → digit_value (get_or text n 0) ≡ Some v → 32 ≤ v
    → (nat_lt n 12 || ((n == 12) && nat_lt (v % 32) 8)) ≡ true → IsUnfinished (take (n + 1) text)
IsUnfinished-more text n v h unfinished e goes within =
    let c : ℕ = get_or text n 0 in
    let len : n ≡ length (take n text) = sym (length-take-le n text (omega arith)) in
    let bits : data_of c ≡ v % 32 = data_of-digit c v e in
    let within' : (nat_lt n 12 || ((n == 12) && nat_lt (data_of c) 8)) ≡ true = rw bits within in
    let on : HasContinuation c = (v, e, goes) in
    rw (take_more text n 0 h) (record {
      continues = HasContinuation-push (take n text) c unfinished.continues on;
      fits = fits_in_number-small (take n text) c n unfinished len within';
    })

pub raw_of-more : (text : List ℕ) (n v : ℕ) → n < length text → digit_value (get_or text n 0) ≡ Some v
    → raw_of (take (n + 1) text) ≡ raw_of (take n text) + v % 32 * 2 ^ (5 * n)
raw_of-more text n v h e =
    let len : length (take n text) ≡ n = length-take-le n text (omega arith) in
    let bits : data_of (get_or text n 0) ≡ v % 32 = data_of-digit (get_or text n 0) v e in
    let pushed : raw_of (take n text ++ get_or text n 0 ∷ []) ≡ raw_of (take n text) + 2 ^ (5
    * length (take n text)) * data_of (get_or text n 0) = raw_of-push (take n text) (get_or text n 0) in
    ap raw_of (take_more text n 0 h) ∙ (pushed ∙ (rw (len, bits) (omega arith)))

-- a digit that has no continuation bit and does not overflow ends the number
pub BeginsWith-last : (text : List ℕ) (n v : ℕ) → n < length text → IsUnfinished (take n text)
    → digit_value (get_or text n 0) ≡ Some v → v < 32
    → (nat_lt n 12 || ((n == 12) && nat_lt (v % 32) 8)) ≡ true
    → BeginsWith text (number_of (raw_of (take (n + 1) text))) (drop (n + 1) text)
BeginsWith-last text n v h unfinished e last within =
    let c : ℕ = get_or text n 0 in
    let len : n ≡ length (take n text) = sym (length-take-le n text (omega arith)) in
    let bits : data_of c ≡ v % 32 = data_of-digit c v e in
    let within' : (nat_lt n 12 || ((n == 12) && nat_lt (data_of c) 8)) ≡ true = rw bits within in
    let fits : FitsOneNumber (take n text ++ c ∷ []) = fits_in_number-small (take n text) c n unfinished len within' in
    let is_last : IsLast c = (v, e, last) in
    let chain : IsChain (take n text ++ c ∷ []) = IsChain-push (take n text) c unfinished.continues is_last in
    let more : take (n + 1) text ≡ take n text ++ c ∷ [] = take_more text n 0 h in
    let fits' : FitsOneNumber (take (n + 1) text) = rw more fits in
    record {
      group = take (n + 1) text;
      is_group = record { chain = rw more chain; fits = fits'; value = refl };
      split = sym (take-append-drop (n + 1) text);
    }

pub NumberError-non_digit : (text : List ℕ) (n c : ℕ) → n < length text → IsUnfinished (take n text)
    → get_or text n 0 ≡ c → digit_value c ≡ None → NumberError text (InvalidBase64 c)
NumberError-non_digit text n c h unfinished e none = (take n text, rw (← e) (GoesTo-at text n h unfinished), none)

pub NumberError-great : (text : List ℕ) (n v : ℕ) → n < length text → IsUnfinished (take n text)
    → digit_value (get_or text n 0) ≡ Some v
    → (nat_lt n 12 || ((n == 12) && nat_lt (v % 32) 8)) ≡ false → NumberError text VlqOverflow
NumberError-great text n v h unfinished e within =
    let c : ℕ = get_or text n 0 in
    let len : n ≡ length (take n text) = sym (length-take-le n text (omega arith)) in
    let bits : data_of c ≡ v % 32 = data_of-digit c v e in
    let within' : (nat_lt n 12 || ((n == 12) && nat_lt (data_of c) 8)) ≡ false = rw bits within in (
      take n text,
      c,
      GoesTo-at text n h unfinished,
      (λ none. cc (e, none)),
      fits_in_number-great (take n text) c n len within',
    )

pub FitsOneNumber-more : (text : List ℕ) (n v : ℕ) → n < length text → IsUnfinished (take n text)
    → digit_value (get_or text n 0) ≡ Some v
    → (nat_lt n 12 || ((n == 12) && nat_lt (v % 32) 8)) ≡ true → FitsOneNumber (take (n + 1) text)
FitsOneNumber-more text n v h unfinished e within =
    let c : ℕ = get_or text n 0 in
    let len : n ≡ length (take n text) = sym (length-take-le n text (omega arith)) in
    let bits : data_of c ≡ v % 32 = data_of-digit c v e in
    let within' : (nat_lt n 12 || ((n == 12) && nat_lt (data_of c) 8)) ≡ true = rw bits within in
    rw (take_more text n 0 h) (fits_in_number-small (take n text) c n unfinished len within')

-- let the first `n` digits of `text` be an unfinished number with the raw value `raw`. Let digit `n` (counted from 0)
-- have the data bits `bits` and pass the overflow test. Then `raw` plus `bits * 2 ^ (5 * n)`, with this product taken
-- modulo 2 ^ 64, is the raw value of the first `n + 1` digits. This raw value is below 2 ^ 63
pub sum_of-more : (text : List ℕ) (n v raw bits : ℕ) → n < length text → IsUnfinished (take n text)
    → digit_value (get_or text n 0) ≡ Some v
    → (nat_lt n 12 || ((n == 12) && nat_lt (v % 32) 8)) ≡ true
    → raw ≡ raw_of (take n text) → bits ≡ v % 32
    → (raw + bits * 2 ^ (5 * n) % 2 ^ 64 ≡ raw_of (take (n + 1) text)) × (raw_of (take (n + 1) text) < 2 ^ 63)
sum_of-more text n v raw bits h unfinished e within is_raw is_bits =
    let more : raw_of (take (n + 1) text) ≡ raw_of (take n text) + v % 32 * 2 ^ (5 * n) = raw_of-more text n v h e in
    let fits : FitsOneNumber (take (n + 1) text) = FitsOneNumber-more text n v h unfinished e within in
    let product : bits * 2 ^ (5 * n) ≡ v % 32 * 2 ^ (5 * n) = ap (λ k. k * 2 ^ (5 * n)) is_bits in
    let small : raw_of (take (n + 1) text) < 2 ^ 63 = fits.small in
    let low : bits * 2 ^ (5 * n) < 2 ^ 64 = omega arith in
    let whole : bits * 2 ^ (5 * n) % 2 ^ 64 ≡ bits * 2 ^ (5 * n) = omega arith in
    (omega arith, small)

-- ---- sequences of numbers

pub Reads-push : (front group : List ℕ) (numbers : List ℤ) (n : ℤ) → Reads front numbers → IsGroup group n
    → Reads (front ++ group) (numbers ++ n ∷ [])
Reads-push front group [] n reads is_group =
    let e : front ++ group ≡ group ++ [] = ap (λ xs. xs ++ group) reads ∙ sym (append-nil group) in
    (group, [], is_group, e, refl)
Reads-push front group (m ∷ ms) n reads is_group =
    let e : front ++ group ≡ reads.0 ++ (reads.1 ++ group) =
    ap (λ xs. xs ++ group) reads.3 ∙ append_assoc reads.0 reads.1 group in
    (reads.0, reads.1 ++ group, reads.2, e, Reads-push reads.1 group ms n reads.4 is_group)

-- let `text` be `front` followed by `rest`, and let `rest` be the digits of `n` followed by `tail`. If `front` reads as
-- `numbers`, then `front` with the digits of `n` at its end reads as `numbers` followed by `n`, and the rest of `text`
-- is `tail`
pub IsSound-more : (text rest tail : List ℕ) (front : List ℕ) (numbers : List ℤ) (n : ℤ)
    → Reads front numbers → text ≡ front ++ rest → (b : BeginsWith rest n tail)
    → Reads (front ++ b.group) (numbers ++ n ∷ []) × (text ≡ (front ++ b.group) ++ tail)
IsSound-more text rest tail front numbers n reads split b = (
  Reads-push front b.group numbers n reads b.is_group,
  split ∙ (ap (λ xs. front ++ xs) b.split ∙ sym (append_assoc front b.group tail)),
)

-- ---- decoding a text has at most one result: the result of `answer_of`, which reads from left to right

is_small : List ℕ → Bool
is_small digits = nat_le (length digits) 13 && nat_lt (raw_of digits) (2 ^ 63)

is_small-true : (digits : List ℕ) → FitsOneNumber digits → is_small digits ≡ true
unfolding is_small
is_small-true digits h = and_from _ _ (le-leb (length digits) 13 h.few) (lt-ltb (raw_of digits) (2 ^ 63) h.small)

is_small-FitsOneNumber : (digits : List ℕ) → is_small digits ≡ true → FitsOneNumber digits
unfolding is_small
is_small-FitsOneNumber digits h =
    let parts = and_parts (nat_le (length digits) 13) (nat_lt (raw_of digits) (2 ^ 63)) h in
    record { few = leb-true (length digits) 13 parts.0; small = ltb-true (raw_of digits) (2 ^ 63) parts.1 }

with_number : ℤ → Result (List ℤ) Error → Result (List ℤ) Error
with_number n (Ok ns) = Ok (n ∷ ns)
with_number n (Err e) = Err e

with_numbers : List ℤ → Result (List ℤ) Error → Result (List ℤ) Error
with_numbers [] r = r
with_numbers (n ∷ ns) r = with_number n (with_numbers ns r)

-- the result from the byte `c` on. `whole` is the current group of digits, and ends with `c`. If `c` is not a digit, or
-- if `whole` does not fit one number, the result is an error. Otherwise, the result is `more` if `c` has the
-- continuation bit. If `c` does not have this bit, the result is the number of `whole` followed by the numbers of
-- `next`, or the error of `next`
after_digit : List ℕ → ℕ → Option ℕ → Result (List ℤ) Error → Result (List ℤ) Error → Result (List ℤ) Error
after_digit whole c None more next = Err (InvalidBase64 c)
after_digit whole c (Some v) more next =
    if is_small whole then (if nat_lt v 32 then with_number (number_of (raw_of whole)) next else more)
    else Err VlqOverflow

at_end : List ℕ → Result (List ℤ) Error
at_end [] = Ok []
at_end (c ∷ cs) = Err VlqLeftover

scan_from : List ℕ → List ℕ → Result (List ℤ) Error
scan_from part [] = at_end part
scan_from part (c ∷ cs) =
    after_digit (part ++ c ∷ []) c (digit_value c) (scan_from (part ++ c ∷ []) cs) (scan_from [] cs)

not_none : Result (List ℤ) Error → Result (List ℤ) Error
not_none (Ok []) = Err VlqNoValues
not_none (Ok (n ∷ ns)) = Ok (n ∷ ns)
not_none (Err e) = Err e

answer_of : List ℕ → Result (List ℤ) Error
answer_of text = not_none (scan_from [] text)

-- the scan adds a digit `c` with the continuation bit to `part`, if `part` with `c` fits one number
scan-continues : (part cs : List ℕ) (c : ℕ) → HasContinuation c → FitsOneNumber (part ++ c ∷ [])
    → scan_from part (c ∷ cs) ≡ scan_from (part ++ c ∷ []) cs
unfolding scan_from after_digit
scan-continues part cs c (v, e, goes) small =
    let fits : is_small (part ++ c ∷ []) ≡ true = is_small-true (part ++ c ∷ []) small in
    let test : nat_lt v 32 ≡ false = le-ltb v 32 goes in
    rw (e, fits, test) refl

scan-last : (part cs : List ℕ) (c : ℕ) → IsLast c → FitsOneNumber (part ++ c ∷ [])
    → scan_from part (c ∷ cs) ≡ with_number (number_of (raw_of (part ++ c ∷ []))) (scan_from [] cs)
unfolding scan_from after_digit
scan-last part cs c (v, e, last) small =
    let fits : is_small (part ++ c ∷ []) ≡ true = is_small-true (part ++ c ∷ []) small in
    let test : nat_lt v 32 ≡ true = lt-ltb v 32 last in
    rw (e, fits, test) refl

-- if the digits `xs ++ ys` fit one number, the digits `xs` fit one number too
FitsOneNumber-front : (xs ys : List ℕ) → FitsOneNumber (xs ++ ys) → FitsOneNumber xs
FitsOneNumber-front xs ys small =
    let raw : raw_of (xs ++ ys) ≡ raw_of xs + 2 ^ (5 * length xs) * raw_of ys = raw_of-append xs ys in
    let len : length (xs ++ ys) ≡ length xs + length ys = length-append xs ys in
    let few : length (xs ++ ys) ≤ 13 = small.few in
    let low : raw_of (xs ++ ys) < 2 ^ 63 = small.small in
    record { few = omega arith; small = omega arith }

one_by_one : (part cs : List ℕ) (c : ℕ) → part ++ c ∷ cs ≡ (part ++ c ∷ []) ++ cs
one_by_one part cs c = sym (append_assoc part (c ∷ []) cs)

FitsOneNumber-first : (part cs : List ℕ) (c : ℕ) → FitsOneNumber (part ++ c ∷ cs) → FitsOneNumber (part ++ c ∷ [])
FitsOneNumber-first part cs c small = let P : List ℕ → Type 0 = FitsOneNumber in
    FitsOneNumber-front (part ++ c ∷ []) cs (subst P (one_by_one part cs c) small)

scan-unfinished : (part xs rest : List ℕ) → AllByRecursion HasContinuation xs → FitsOneNumber (part ++ xs)
    → scan_from part (xs ++ rest) ≡ scan_from (part ++ xs) rest
scan-unfinished part [] rest all small = ap (λ p. scan_from p rest) (sym (append-nil part))
scan-unfinished part (c ∷ cs) rest all small =
    let P : List ℕ → Type 0 = FitsOneNumber in
    let e : part ++ c ∷ cs ≡ (part ++ c ∷ []) ++ cs = one_by_one part cs c in
    scan-continues part (cs ++ rest) c all.0 (FitsOneNumber-first part cs c small)
    ∙ (scan-unfinished (part ++ c ∷ []) cs rest all.1 (subst P e small) ∙ ap (λ p. scan_from p rest) (sym e))

scan-chain : (part xs rest : List ℕ) → IsChain xs → FitsOneNumber (part ++ xs)
    → scan_from part (xs ++ rest) ≡ with_number (number_of (raw_of (part ++ xs))) (scan_from [] rest)
scan-chain part [] rest chain small = absurd chain
scan-chain part (c ∷ []) rest chain small = scan-last part rest c chain small
scan-chain part (c ∷ d ∷ cs) rest chain small =
    let P : List ℕ → Type 0 = FitsOneNumber in
    let e : part ++ c ∷ d ∷ cs ≡ (part ++ c ∷ []) ++ (d ∷ cs) = one_by_one part (d ∷ cs) c in
    scan-continues part ((d ∷ cs) ++ rest) c chain.0 (FitsOneNumber-first part (d ∷ cs) c small)
    ∙ (scan-chain (part ++ c ∷ []) (d ∷ cs) rest chain.1 (subst P e small)
    ∙ ap (λ p. with_number (number_of (raw_of p)) (scan_from [] rest)) (sym e))

scan-group : (group rest : List ℕ) (n : ℤ) → IsGroup group n
    → scan_from [] (group ++ rest) ≡ with_number n (scan_from [] rest)
scan-group group rest n g =
    scan-chain [] group rest g.chain g.fits ∙ ap (λ m. with_number m (scan_from [] rest)) (sym g.value)

scan-reads : (front rest : List ℕ) (numbers : List ℤ) → Reads front numbers
    → scan_from [] (front ++ rest) ≡ with_numbers numbers (scan_from [] rest)
unfolding with_numbers
scan-reads front rest [] reads = ap (λ xs. scan_from [] (xs ++ rest)) reads
scan-reads front rest (n ∷ ns) (group, tail, g, e, reads) =
    ap (λ xs. scan_from [] (xs ++ rest)) e
    ∙ (ap (λ xs. scan_from [] xs) (append_assoc group tail rest)
    ∙ (scan-group group (tail ++ rest) n g ∙ ap (λ r. with_number n r) (scan-reads tail rest ns reads)))

-- let `text` begin with the digits `part` of an unfinished number, and let the byte `c` come next. Then the scan of
-- `text` has the same result as the scan from `c` on with `part` as the current group
scan-goes_to : (text part : List ℕ) (c : ℕ) → (to : GoesTo text part c)
    → scan_from [] text ≡ scan_from part (c ∷ to.more)
scan-goes_to text part c to = ap (λ xs. scan_from [] xs) to.split ∙ scan-unfinished [] part (c
    ∷ to.more) to.unfinished.continues to.unfinished.fits

scan-non_digit : (part cs : List ℕ) (c : ℕ) → digit_value c ≡ None → scan_from part (c ∷ cs) ≡ Err (InvalidBase64 c)
unfolding scan_from after_digit
scan-non_digit part cs c e = rw e refl

scan-great : (part cs : List ℕ) (c : ℕ) → digit_value c ≢ None → ¬ FitsOneNumber (part ++ c ∷ [])
    → scan_from part (c ∷ cs) ≡ Err VlqOverflow
unfolding scan_from after_digit
scan-great part cs c ne great =
    let no : is_small (part ++ c ∷ []) ≡ false =
    false_from_ne_true _ (λ t. great (is_small-FitsOneNumber (part ++ c ∷ []) t)) in
    elim (digit_value_cases c) [
      | inl none ↦ absurd (ne none)
      | inr (v, e) ↦ rw (e, no) refl
    ]

scan-leftover : (c : ℕ) (cs : List ℕ) → IsUnfinished (c ∷ cs) → scan_from [] (c ∷ cs) ≡ Err VlqLeftover
unfolding scan_from at_end
scan-leftover c cs u =
    ap (λ xs. scan_from [] xs) (sym (append-nil (c ∷ cs))) ∙ scan-unfinished [] (c ∷ cs) [] u.continues u.fits

scan-error : (rest : List ℕ) (e : Error) → NumberError rest e → rest ≢ [] → scan_from [] rest ≡ Err e
scan-error rest (InvalidBase64 c) (part, to, none) ne = scan-goes_to rest part c to ∙ scan-non_digit part to.more c none
scan-error rest VlqOverflow (part, c, to, some, great) ne =
    scan-goes_to rest part c to ∙ scan-great part to.more c some great
scan-error [] VlqLeftover u ne = absurd (ne refl)
scan-error (c ∷ cs) VlqLeftover u ne = scan-leftover c cs u
scan-error rest _ error ne = absurd error

with_numbers-ok : (ns : List ℤ) → with_numbers ns (Ok []) ≡ Ok ns
unfolding with_numbers with_number
with_numbers-ok [] = refl
with_numbers-ok (n ∷ ns) = ap (λ r. with_number n r) (with_numbers-ok ns)

with_numbers-err : (ns : List ℤ) (e : Error) → with_numbers ns (Err e) ≡ Err e
unfolding with_numbers with_number
with_numbers-err [] e = refl
with_numbers-err (n ∷ ns) e = ap (λ r. with_number n r) (with_numbers-err ns e)

scan-numbers : (text : List ℕ) (numbers : List ℤ) → Reads text numbers → scan_from [] text ≡ Ok numbers
unfolding scan_from at_end
scan-numbers text numbers reads =
    ap (λ xs. scan_from [] xs) (sym (append-nil text)) ∙ (scan-reads text [] numbers reads ∙ with_numbers-ok numbers)

same-numbers : (text : List ℕ) (numbers : List ℤ) → Reads text numbers → numbers ≢ [] → Ok numbers ≡ answer_of text
unfolding answer_of not_none
same-numbers text [] reads ne = absurd (ne refl)
same-numbers text (n ∷ ns) reads ne = sym (ap not_none (scan-numbers text (n ∷ ns) reads))

same-error : (text rest : List ℕ) (e : Error) → IsSound text rest → rest ≢ [] → NumberError rest e
    → Err e ≡ answer_of text
unfolding answer_of not_none
same-error text rest e sound ne error =
    let scanned : scan_from [] text ≡ Err e =
    ap (λ xs. scan_from [] xs) sound.split ∙ (scan-reads sound.front rest sound.numbers sound.reads
    ∙ (ap (λ r. with_numbers sound.numbers r) (scan-error rest e error ne) ∙ with_numbers-err sound.numbers e)) in
    sym (ap not_none scanned)

answer-same : (text : List ℕ) (answer : Result (List ℤ) Error) → SegmentAnswers text answer → answer ≡ answer_of text
unfolding answer_of not_none scan_from at_end
answer-same text (Ok numbers) due = same-numbers text numbers due.0 due.1
answer-same text (Err VlqNoValues) due = sym (ap answer_of due)
answer-same text (Err e) due = same-error text due.0 e due.1 due.2 due.3

-- decoding a text has at most one result
pub SegmentAnswers-same : (text : List ℕ) (a b : Result (List ℤ) Error) → SegmentAnswers text a
    → SegmentAnswers text b → a ≡ b
SegmentAnswers-same text a b of_a of_b = answer-same text a of_a ∙ sym (answer-same text b of_b)

pub HasError-later : (text rest : List ℕ) → IsSound text rest → rest ≢ [] → (e : Error) → NumberError rest e
    → HasError text e
HasError-later text rest sound ne VlqNoValues error = absurd error
HasError-later text rest sound ne e error = (rest, sound, ne, error)

pub IsGroup-nonempty : (group : List ℕ) (n : ℤ) → IsGroup group n → 0 < length group
IsGroup-nonempty [] n g = absurd g.chain
IsGroup-nonempty (c ∷ cs) n g = omega arith

-- ---- the shortest digits of a number

-- the raw value of a number: twice the absolute value, plus 1 if the number is negative
unfoldable pub total_of : ℤ → ℕ
total_of (pos k) = 2 * k
total_of (negsuc k) = 2 * suc k + 1

number_of-even : (k : ℕ) → number_of (2 * k) ≡ pos k
number_of-even k =
    let even : 2 * k % 2 ≡ 0 = omega arith in
    let half : 2 * k / 2 ≡ k = omega arith in
    rw (even, half) refl

number_of-odd : (k : ℕ) → number_of (2 * k + 1) ≡ neg_ℤ (pos k)
number_of-odd k =
    let odd : (2 * k + 1) % 2 ≡ 1 = omega arith in
    let half : (2 * k + 1) / 2 ≡ k = omega arith in
    rw (odd, half) refl

number_of-total : (n : ℤ) → number_of (total_of n) ≡ n
unfolding total_of
number_of-total (pos k) = number_of-even k
number_of-total (negsuc k) = number_of-odd (suc k)

-- `total_of` maps the number of `r` to `r`, unless `r` is 1; the raw value 1 is the number 0 with the sign bit set
total_of-number : (r : ℕ) → (r ≡ 1) ⊎ (total_of (number_of r) ≡ r)
unfolding total_of
total_of-number r =
    elim (cases_eq (r % 2) 0) [
      | inl even ↦
          let whole : r ≡ 2 * (r / 2) = omega arith in
          let number : number_of r ≡ pos (r / 2) = ap number_of whole ∙ number_of-even (r / 2) in
          inr (ap total_of number ∙ sym whole)
      | inr odd ↦
          let whole : r ≡ 2 * (r / 2) + 1 = omega arith in
          let number : number_of r ≡ neg_ℤ (pos (r / 2)) = ap number_of whole ∙ number_of-odd (r / 2) in
          odd_total r (r / 2) whole number
    ]
  where
    odd_total : (r h : ℕ) → r ≡ 2 * h + 1 → number_of r ≡ neg_ℤ (pos h) → (r ≡ 1) ⊎ (total_of (number_of r) ≡ r)
    odd_total r zero whole number = inl whole
    odd_total r (suc h) whole number = inr (ap total_of number ∙ sym whole)

pub IsGroup-raw : (group : List ℕ) (n : ℤ) → IsGroup group n → (raw_of group ≡ 1) ⊎ (raw_of group ≡ total_of n)
IsGroup-raw group n g =
    elim (total_of-number (raw_of group)) [
      | inl one ↦ inl one
      | inr same ↦ inr (sym same ∙ ap total_of (sym g.value))
    ]

-- groups of equal length and equal raw value are equal
digit_from-last : (c d : ℕ) → IsLast c → IsLast d → data_of c ≡ data_of d → c ≡ d
digit_from-last c d (v, e, low) (w, f, low') same =
    let left : data_of c ≡ v % 32 = data_of-digit c v e in
    let right : data_of d ≡ w % 32 = data_of-digit d w f in
    let value : v ≡ w = omega arith in
    sym (glyph-digit_value c v e) ∙ (ap glyph value ∙ glyph-digit_value d w f)

digit_from-continues : (c d : ℕ) → HasContinuation c → HasContinuation d → data_of c ≡ data_of d → c ≡ d
digit_from-continues c d (v, e, high) (w, f, high') same =
    let left : data_of c ≡ v % 32 = data_of-digit c v e in
    let right : data_of d ≡ w % 32 = data_of-digit d w f in
    let below : v < 64 = digit_value-below c v e in
    let below' : w < 64 = digit_value-below d w f in
    let value : v ≡ w = omega arith in
    sym (glyph-digit_value c v e) ∙ (ap glyph value ∙ glyph-digit_value d w f)

same_cons : (c d : ℕ) (xs ys : List ℕ) → c ≡ d → xs ≡ ys → c ∷ xs ≡ d ∷ ys
same_cons c d xs ys e f = cc (e, f)

same_chain : (xs ys : List ℕ) → IsChain xs → IsChain ys → length xs ≡ length ys → raw_of xs ≡ raw_of ys → xs ≡ ys
same_chain [] ys left right len raw = absurd left
same_chain (c ∷ xs) [] left right len raw = absurd right
same_chain (c ∷ []) (d ∷ []) left right len raw =
    same_cons c d [] [] (digit_from-last c d left right (omega arith)) refl
same_chain (c ∷ []) (d ∷ e ∷ ys) left right len raw = absurd (omega arith)
same_chain (c ∷ b ∷ xs) (d ∷ []) left right len raw = absurd (omega arith)
same_chain (c ∷ b ∷ xs) (d ∷ e ∷ ys) left right len raw =
    let bits : data_of c ≡ data_of d = omega arith in
    let rest : raw_of (b ∷ xs) ≡ raw_of (e ∷ ys) = omega arith in
    let len' : length (b ∷ xs) ≡ length (e ∷ ys) = omega arith in
    same_cons c d (b ∷ xs) (e ∷ ys) (digit_from-continues c d left.0 right.0 bits)
    (same_chain (b ∷ xs) (e ∷ ys) left.1 right.1 len' rest)

IsShortest-raw : (digits : List ℕ) (n : ℤ) → IsShortest digits n → raw_of digits ≡ total_of n
IsShortest-raw digits n s = elim (IsGroup-raw digits n s.is_group) [
  | inl one ↦ absurd (s.unsigned_zero one)
  | inr same ↦ same
]

-- a number has at most one shortest group
pub IsShortest-same : (xs ys : List ℕ) (n : ℤ) → IsShortest xs n → IsShortest ys n → xs ≡ ys
IsShortest-same xs ys n left right =
    let one_way : length xs ≤ length ys = left.shortest ys right.is_group in
    let other_way : length ys ≤ length xs = right.shortest xs left.is_group in
    same_chain xs ys left.is_group.chain right.is_group.chain (omega arith)
    (IsShortest-raw xs n left ∙ sym (IsShortest-raw ys n right))

-- numbers have at most one text of shortest groups
pub Spells-same : (numbers : List ℤ) (a b : List ℕ) → Spells numbers a → Spells numbers b → a ≡ b
Spells-same [] a b of_a of_b = of_a ∙ sym of_b
Spells-same (n ∷ ns) a b (xs, rest, shortest, e, tail) (ys, rest', shortest', e', tail') =
    let first : xs ≡ ys = IsShortest-same xs ys n shortest shortest' in
    let others : rest ≡ rest' = Spells-same ns rest rest' tail tail' in
    e ∙ (ap (λ front. front ++ rest) first ∙ (ap (λ tail. ys ++ tail) others ∙ sym e'))

pub Spells-Reads : (numbers : List ℤ) (text : List ℕ) → Spells numbers text → Reads text numbers
Spells-Reads [] text e = e
Spells-Reads (n ∷ ns) text (group, rest, shortest, e, tail) =
    (group, rest, shortest.is_group, e, Spells-Reads ns rest tail)

pub Spells-push : (numbers : List ℤ) (text group : List ℕ) (n : ℤ) → Spells numbers text → IsShortest group n
    → Spells (numbers ++ n ∷ []) (text ++ group)
Spells-push [] text group n e shortest =
    let all : text ++ group ≡ group ++ [] = ap (λ xs. xs ++ group) e ∙ sym (append-nil group) in
    (group, [], shortest, all, refl)
Spells-push (m ∷ ms) text group n (first, rest, shortest', e, tail) shortest =
    let all : text ++ group ≡ first ++ (rest ++ group) = ap (λ xs. xs ++ group) e ∙ append_assoc first rest group in
    (first, rest ++ group, shortest', all, Spells-push ms rest group n tail shortest)

-- ---- numbers that have no group

total_of-abs : (n : ℤ) → 2 * unsigned_abs n ≤ total_of n
unfolding total_of
total_of-abs (pos k) = omega arith
total_of-abs (negsuc k) = omega arith

total_of-zero : (n : ℤ) (group : List ℕ) → IsGroup group n → raw_of group ≡ 1 → total_of n ≡ 0
unfolding total_of
total_of-zero n group g one = ap total_of (g.value ∙ ap number_of one)

-- the absolute value of a number with a group is below 2 ^ 62
pub IsGroup-near : (group : List ℕ) (n : ℤ) → IsGroup group n → unsigned_abs n < 2 ^ 62
IsGroup-near group n g =
    let abs : 2 * unsigned_abs n ≤ total_of n = total_of-abs n in
    let small : raw_of group < 2 ^ 63 = g.fits.small in
    elim (IsGroup-raw group n g) [
      | inl one ↦ let zero : total_of n ≡ 0 = total_of-zero n group g one in omega arith
      | inr same ↦ omega arith
    ]

Spells-near : (numbers : List ℤ) (text : List ℕ) → Spells numbers text
    → AllByRecursion (λ n. unsigned_abs n < 2 ^ 62) numbers
Spells-near [] text e = tt
Spells-near (n ∷ ns) text (group, rest, shortest, e, tail) =
    (IsGroup-near group n shortest.is_group, Spells-near ns rest tail)

Spells-not_far : (numbers : List ℤ) (text : List ℕ) → Spells numbers text → Any IsTooLarge numbers → ⊥
Spells-not_far numbers text spells (k, n, lt, at, far) =
    let near : unsigned_abs (get_or numbers k n) < 2 ^ 62 =
    All-from_recursion (λ m. unsigned_abs m < 2 ^ 62) numbers (Spells-near numbers text spells) k n lt in
    let same : unsigned_abs (get_or numbers k n) ≡ unsigned_abs n = ap unsigned_abs at in
    omega arith

-- encoding numbers has at most one result
pub SpellingAnswers-same : (numbers : List ℤ) (a b : Result (List ℕ) Error) → SpellingAnswers numbers a
    → SpellingAnswers numbers b → a ≡ b
SpellingAnswers-same numbers (Ok a) (Ok b) of_a of_b = ap Ok (Spells-same numbers a b of_a of_b)
SpellingAnswers-same numbers (Ok a) (Err VlqOverflow) of_a of_b = absurd (Spells-not_far numbers a of_a of_b)
SpellingAnswers-same numbers (Ok a) (Err _) of_a of_b = absurd of_b
SpellingAnswers-same numbers (Err VlqOverflow) (Ok b) of_a of_b = absurd (Spells-not_far numbers b of_b of_a)
SpellingAnswers-same numbers (Err VlqOverflow) (Err VlqOverflow) of_a of_b = refl
SpellingAnswers-same numbers (Err VlqOverflow) (Err _) of_a of_b = absurd of_b
SpellingAnswers-same numbers (Err _) b of_a of_b = absurd of_a

-- ---- digits written from the left

-- the digit of a value, with the continuation bit and without it
pub HasContinuation-glyph : (v : ℕ) → v < 32 → HasContinuation (glyph (v + 32))
HasContinuation-glyph v h = (v + 32, digit_value-glyph (v + 32) (omega arith), omega arith)

pub IsLast-glyph : (v : ℕ) → v < 32 → IsLast (glyph v)
IsLast-glyph v h = (v, digit_value-glyph v (omega arith), h)

-- let `total` be the raw value of `part` plus `left` times the weight of the digit after `part`. This equation still
-- holds if a digit with the lowest five bits of `left` and the continuation bit is appended to `part`, and `left` is
-- divided by 32 and rounded down
pub raw_of-split : (part : List ℕ) (total left : ℕ) → total ≡ raw_of part + 2 ^ (5 * length part) * left
    → total ≡ raw_of (part ++ glyph (left % 32 + 32) ∷ []) + 2 ^ (5
    * length (part ++ glyph (left % 32 + 32) ∷ [])) * (left / 32)
raw_of-split part total left e =
    let c : ℕ = glyph (left % 32 + 32) in
    let bits : data_of c ≡ (left % 32 + 32) % 32 =
    data_of-digit c (left % 32 + 32) (digit_value-glyph (left % 32 + 32) (omega arith)) in
    let bits' : data_of c ≡ left % 32 = omega arith in
    let pushed : raw_of (part ++ c ∷ []) ≡ raw_of part + 2 ^ (5 * length part) * data_of c = raw_of-push part c in
    let len : length (part ++ c ∷ []) ≡ suc (length part) = omega (arith, length_push part c) in
    let w : 2 ^ (5 * length (part ++ c ∷ [])) ≡ 32 * 2 ^ (5 * length part) =
    ap (λ k. 2 ^ (5 * k)) len ∙ weight-suc (length part) in
    let whole : left ≡ 32 * (left / 32) + left % 32 = omega arith in
    let product : 2 ^ (5 * length part) * left ≡ 2 ^ (5 * length part) * (32 * (left / 32) + left % 32) =
    ap (λ k. 2 ^ (5 * length part) * k) whole in
    rw (pushed, w, bits') (omega arith)

pub total_of-parts : (n : ℤ) → total_of n ≡ 2 * unsigned_abs n + bool_byte (lt_z n (pos 0))
unfolding total_of
total_of-parts (pos k) = let none : nat_lt k 0 ≡ false = le-ltb k 0 (omega arith) in rw none (omega arith)
total_of-parts (negsuc k) = omega arith

total_of-small : (n : ℤ) → unsigned_abs n < 2 ^ 62 → total_of n < 2 ^ 63
unfolding total_of
total_of-small (pos k) h = omega arith
total_of-small (negsuc k) h = omega arith

total_of-not_one : (n : ℤ) → total_of n ≡ 1 → ⊥
unfolding total_of
total_of-not_one (pos k) h = omega arith
total_of-not_one (negsuc k) h = omega arith

-- if something is left at the weight w, the total is at least w
pub weighs : (raw w left total : ℕ) → 0 < left → total ≡ raw + w * left → w ≤ total
weighs raw w left total h e =
    let more : w * 1 ≤ w * left = mul-le w 1 w left (omega arith) h in
    omega arith

few_digits : (k m total : ℕ) → m ≡ k + 1 → total < 2 ^ 63 → (0 < k → 2 ^ (5 * k) ≤ total) → m ≤ 13
few_digits k m total e small heavy =
    elim (cases_lt 12 k) [
      | inl many ↦
          let mono : 2 ^ 65 ≤ 2 ^ (5 * k) = pow_mono {i = 65} {j = 5 * k} (omega arith) in
          let weight_of : 2 ^ (5 * k) ≤ total = heavy (omega arith) in
          absurd (omega arith)
      | inr few ↦ omega arith
    ]

-- at most twelve digits are written before the last one
pub few_so_far : (part : List ℕ) (total left : ℕ) → total < 2 ^ 63 → total ≡ raw_of part + 2 ^ (5 * length part) * left
    → (0 < length part → 0 < left) → length part ≤ 12
few_so_far part total left small e some =
    let most : length part + 1 ≤ 13 = few_digits (length part) (length part
    + 1) total refl small (λ h. weighs (raw_of part) (2 ^ (5 * length part)) left total (some h) e) in
    omega arith

no_shorter : (k m : ℕ) (n : ℤ) (other : List ℕ) → IsGroup other n → m ≡ k + 1 → (0 < k → 2 ^ (5 * k) ≤ total_of n)
    → m ≤ length other
no_shorter k m n other g e heavy =
    let some : 0 < length other = IsGroup-nonempty other n g in
    let below : raw_of other < 2 ^ (5 * length other) = raw_of-below other in
    elim (cases_lt 0 k) [
      | inr none ↦ omega arith
      | inl long ↦
          let weight_of : 2 ^ (5 * k) ≤ total_of n = heavy long in
          elim (IsGroup-raw other n g) [
            | inl one ↦
                let zero_of : total_of n ≡ 0 = total_of-zero n other g one in
                let positive : 0 < 2 ^ (5 * k) = pow_pos (5 * k) in
                absurd (omega arith)
            | inr same ↦
                elim (cases_lt k (length other)) [
                  | inl longer ↦ omega arith
                  | inr shorter ↦
                      let mono : 2 ^ (5 * length other) ≤ 2 ^ (5 * k) =
                      pow_mono {i = 5 * length other} {j = 5 * k} (omega arith) in
                      absurd (omega arith)
                ]
          ]
    ]

-- let all digits of `part` have the continuation bit, and let the absolute value of `n` be below 2 ^ 62. Let the raw
-- value of `n` be the raw value of `part` plus `left` times the weight of the digit after `part`. Let `left` be below
-- 32, and not 0 if `part` has digits. Then `part` followed by the digit of `left` is the shortest digit sequence of `n`
pub IsShortest-last : (part : List ℕ) (n : ℤ) (left : ℕ) → AllByRecursion HasContinuation part → left < 32
    → unsigned_abs n < 2 ^ 62
    → total_of n ≡ raw_of part + 2 ^ (5 * length part) * left → (0 < length part → 0 < left)
    → IsShortest (part ++ glyph left ∷ []) n
IsShortest-last part n left all low near e some =
    let c : ℕ = glyph left in
    let bits : data_of c ≡ left % 32 = data_of-digit c left (digit_value-glyph left (omega arith)) in
    let bits' : data_of c ≡ left = omega arith in
    let pushed : raw_of (part ++ c ∷ []) ≡ raw_of part + 2 ^ (5 * length part) * data_of c = raw_of-push part c in
    let raw : raw_of (part ++ c ∷ []) ≡ total_of n =
    pushed ∙ (ap (λ k. raw_of part + 2 ^ (5 * length part) * k) bits' ∙ sym e) in
    let len : length (part ++ c ∷ []) ≡ length part + 1 = length_push part c in
    let small : total_of n < 2 ^ 63 = total_of-small n near in
    let heavy : 0 < length part → 2 ^ (5 * length part) ≤ total_of n =
    λ h. weighs (raw_of part) (2 ^ (5 * length part)) left (total_of n) (some h) e in
    record {
      is_group = record {
        chain = IsChain-push part c all (IsLast-glyph left low);
        fits = record {
          few = few_digits (length part) (length (part ++ c ∷ [])) (total_of n) len small heavy;
          small = rw raw small;
        };
        value = sym (ap number_of raw ∙ number_of-total n);
      };
      shortest = λ other g. no_shorter (length part) (length (part ++ c ∷ [])) n other g len heavy;
      unsigned_zero = λ one. total_of-not_one n (sym raw ∙ one);
    }

-- if number `k` is too large, encoding `numbers` may return the error `VlqOverflow`
pub SpellingAnswers-refused : (numbers : List ℤ) (k : ℕ) (e : Error) → k < length numbers
    → UnlessMemory e ((e ≡ VlqOverflow) × IsTooLarge (get_or numbers k (pos 0)))
    → UnlessMemory e (SpellingAnswers numbers (Err e))
SpellingAnswers-refused numbers k e lt refused =
    let n : ℤ = get_or numbers k (pos 0) in
    UnlessMemory-weaker e (λ (w : (e ≡ VlqOverflow) × IsTooLarge n).
    let P : Error → Type 0 = λ x. SpellingAnswers numbers (Err x) in
    subst P (sym w.0) (k, n, lt, get_or_default numbers k n (pos 0) lt, w.1)) refused

-- if the first digit of `text` has no continuation bit, this digit alone is the first number of `text`
pub BeginsWith-first : (text : List ℕ) (v : ℕ) → 0 < length text → digit_value (get_or text 0 0) ≡ Some v → v < 32
    → BeginsWith text (number_of v) (drop 1 text)
BeginsWith-first text v h e last =
    let sum = sum_of-more text 0 v 0 (v % 32) h IsUnfinished-nil e refl refl refl in
    let raw : v ≡ raw_of (take 1 text) = omega (arith, sum.0) in
    let begins : BeginsWith text (number_of (raw_of (take 1 text))) (drop 1 text) =
    BeginsWith-last text 0 v h IsUnfinished-nil e last refl in
    rw raw begins

-- if the first digit of `text` has the continuation bit and the second has not, the first number is these two digits
pub BeginsWith-second : (text : List ℕ) (v w : ℕ) → 1 < length text → digit_value (get_or text 0 0) ≡ Some v → 32 ≤ v
    → digit_value (get_or text 1 0) ≡ Some w → w < 32 → BeginsWith text (number_of (v % 32 + 32 * w)) (drop 2 text)
BeginsWith-second text v w h e goes f last =
    let some : 0 < length text = omega arith in
    let first = sum_of-more text 0 v 0 (v % 32) some IsUnfinished-nil e refl refl refl in
    let unfinished : IsUnfinished (take 1 text) = IsUnfinished-more text 0 v some IsUnfinished-nil e goes refl in
    let low : v % 32 ≡ raw_of (take 1 text) = omega (arith, first.0) in
    let second = sum_of-more text 1 w (v % 32) (w % 32) h unfinished f refl low refl in
    let raw : v % 32 + 32 * w ≡ raw_of (take 2 text) = omega (arith, second.0) in
    let begins : BeginsWith text (number_of (raw_of (take 2 text))) (drop 2 text) =
    BeginsWith-last text 1 w h unfinished f last refl in
    rw raw begins
