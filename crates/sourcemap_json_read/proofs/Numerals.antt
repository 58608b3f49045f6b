-- Digits in a text, and the number that they write.
use Rattle.std.proofs.Common.{◌≡◌, ◌<◌, ◌+◌, ◌*◌, ◌^◌, ℕ, List, [], ◌∷◌, ◌++◌, decimal, drop, get_or, length}
use Rattle.std.proofs.Common.{length-append, append_assoc, refl, sym, ap, ◌∙◌, arith}
use Rattle.std.specs.Char.{digit_value}
use Rattle.std.specs.Str.Parse.{AllDigits, digits_value}
use Rattle.std.proofs.lemmas.Bool.Decides.{nat_tests}
use Rattle.std.proofs.lemmas.Fmt.{decimal-digits_value}
use Rattle.std.proofs.lemmas.Int.Digits.{digits_push, digits_value_push}
use Rattle.std.proofs.lemmas.List.{drop_more}
use Rattle.std.proofs.lemmas.Str.Parse.{IsNumeralModel, numerals_by_value, tells_digits}
use Rattle.json.specs.Word.{head}
use Rattle.sourcemap_json_read.specs.Words.{AreDigits}
use Rattle.sourcemap_json_read.proofs.Heads.{head_is}

value_of_digit : (digit : ℕ) → digit < 10 → digit_value (48 + digit) ≡ digit
value_of_digit digit small = grind (arith, nat_tests)

pub next_digit : (text : List ℕ) (from value at digit : ℕ) → AreDigits text from value at → at < length text
    → head (drop at text) ≡ 48 + digit → digit < 10 → AreDigits text from (10 * value + digit) (at + 1)
next_digit text from value at digit is inside byte small =
    let first : get_or text at 0 ≡ 48 + digit = head_is text at inside ∙ byte in
    let rest : drop at text ≡ (48 + digit) ∷ drop (at + 1) text =
    drop_more text at 0 inside ∙ ap (λ c. c ∷ drop (at + 1) text) first in
    let worth = value_of_digit digit small in
    record {
      digits = is.digits ++ (48 + digit) ∷ [];
      split =
          is.split ∙ ap (λ t. is.digits ++ t) rest
          ∙ sym (append_assoc is.digits ((48 + digit) ∷ []) (drop (at + 1) text));
      all = digits_push 10 is.digits (48 + digit) is.all (omega arith);
      value_is = digits_value_push 10 is.digits (48 + digit) ∙ omega (arith, is.value_is);
      size = omega (arith, is.size, length-append is.digits ((48 + digit) ∷ []));
    }

head_of : (xs ys : List ℕ) → 0 < length xs → head (xs ++ ys) ≡ get_or xs 0 0
head_of [] ys some = absurd (omega arith)
head_of (x ∷ xs) ys some = refl

decimal_numerals : IsNumeralModel (AllDigits 10) (digits_value 10)
decimal_numerals = numerals_by_value (AllDigits 10) tells_digits

pub is_decimal : (text : List ℕ) (from value end : ℕ) → AreDigits text from value end → from < end
    → (head (drop from text) ≡ 48 → end ≡ from + 1) → value < 2 ^ 64 → drop from text ≡ decimal value ++ drop end text
is_decimal text from value end is some shortest fits =
    let ds = is.digits in
    let many : 0 < length ds = omega (arith, is.size) in
    let same : decimal (digits_value 10 ds) ≡ ds =
    decimal-digits_value decimal_numerals ds is.all many (λ zero. omega
    (arith, is.size, shortest (ap head is.split ∙ head_of ds _ many ∙ zero))) (omega (arith, is.value_is)) in
    is.split ∙ ap (λ xs. xs ++ drop end text) (sym same ∙ ap decimal is.value_is)
