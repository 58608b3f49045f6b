-- What escapes decode to.
use Rattle.std.proofs.Common.{◌≡◌, ◌≢◌, ℕ, ◌+◌, ◌*◌, ◌<◌, Bool, true, false, ◌&&◌, cond, List, [], ◌∷◌, length, drop}
use Rattle.std.proofs.Common.{get_or, Option, Some, None, option_and_then, refl, sym, ap, ap₂, ◌∙◌, subst, arith, lit<}
use Rattle.std.proofs.Common.{lt_of_not-le}
use Rattle.std.proofs.lemmas.List.{drop_more, get_or_past}
use Rattle.std.proofs.lemmas.Bool.{and_parts, ne_eqb, lt-ltb, false≢true}
use Rattle.std.proofs.lemmas.Bool.Decides.{nat_tests}
use Rattle.std.proofs.lemmas.Option.{none-some}
use Rattle.std.specs.Char.{digit_value, is_digit, encode_utf8, InScalarRange}
use Rattle.std.specs.Str.{IsUtf8}
use Rattle.json.specs.Text.{code_unit, short_escape, is_high_surrogate, is_low_surrogate, surrogate_pair, content}
use Rattle.json.specs.Text.{plain, after_u, after_high, prepend}
use Rattle.json.specs.Lex.{in_string, lex}
use Rattle.sourcemap_json_read.specs.Runs.{is_plain}
use Rattle.sourcemap_json_read.specs.Strings.{IsUtf8UpTo, IsDecodedBetween, SpellsUnit}
use Rattle.sourcemap_json_read.proofs.StringLemmas.{IsDecodedBetween-plain}
use Rattle.sourcemap_json_read.proofs.Utf8Lemmas.{utf8_cons}

-- ---- two bytes

refuses : (x y c : ℕ) → short_escape y ≡ None → short_escape x ≡ Some c → x ≢ y
refuses x y c none some same = absurd (none-some c (sym none ∙ ap short_escape (sym same) ∙ some))

escape_bytes : (x c : ℕ) (xs : List ℕ) → short_escape x ≡ Some c → IsDecodedBetween (92 ∷ x ∷ xs) (c ∷ []) xs
unfolding content lex short_escape
escape_bytes x c xs is =
    let stands_for = λ (s : ℕ). prepend (s ∷ []) (content plain xs) in
    record {
      bytes = ap (λ u. cond u (content after_u xs) (option_and_then stands_for (short_escape x))) (ne_eqb x 117
          (refuses x 117 c refl is)) ∙ ap (option_and_then stands_for) is;
      goes_on = refl;
    }

-- if the byte at `at + 1` can end a two-byte escape, `at + 1` is within the text
pub escape_within : (text : List ℕ) (at c : ℕ) → short_escape (get_or text (at + 1) 32) ≡ Some c → at + 1 < length text
unfolding short_escape
escape_within text at c is =
    lt_of_not-le (λ past. refuses (get_or text (at + 1) 32) 32 c refl is (get_or_past text (at + 1) 32 past))

pub drop_next : (text : List ℕ) (at next : ℕ) → next ≡ at + 1 → at < length text
    → drop at text ≡ get_or text at 32 ∷ drop next text
drop_next text at next is within = drop_more text at 32 within ∙ ap (λ k. get_or text at 32 ∷ drop k text) (sym is)

pub escape_there : (text : List ℕ) (at c : ℕ) → get_or text at 32 ≡ 92 → short_escape (get_or text (at + 1) 32) ≡ Some c
    → drop at text ≡ 92 ∷ get_or text (at + 1) 32 ∷ drop (at + 2) text
escape_there text at c slash is =
    let within = escape_within text at c is in
    drop_next text at (at + 1) refl (omega arith)
    ∙ ap₂ (λ x xs. x ∷ xs) slash (drop_next text (at + 1) (at + 2) (omega arith) within)

pub IsDecodedBetween-escape : (text : List ℕ) (at c : ℕ) → get_or text at 32 ≡ 92
    → short_escape (get_or text (at + 1) 32) ≡ Some c → IsDecodedBetween (drop at text) (c ∷ []) (drop (at + 2) text)
IsDecodedBetween-escape text at c slash is =
    subst (λ before. IsDecodedBetween before (c ∷ []) (drop (at + 2) text)) (sym (escape_there text at c slash is))
    (escape_bytes (get_or text (at + 1) 32) c (drop (at + 2) text) is)

-- ---- four digits

holds : (b : Bool) (v u : ℕ) → cond b (Some v) None ≡ Some u → b ≡ true
holds true v u e = refl
holds false v u e = absurd (none-some u e)

are_digits : (a b c d u : ℕ) → code_unit a b c d ≡ Some u
    → (is_digit a 16 ≡ true) × (is_digit b 16 ≡ true) × (is_digit c 16 ≡ true) × (is_digit d 16 ≡ true)
unfolding code_unit
are_digits a b c d u is =
    let all = and_parts (is_digit a 16 && is_digit b 16 && is_digit c 16) (is_digit d 16) (holds
    (is_digit a 16 && is_digit b 16 && is_digit c 16 && is_digit d 16) _ u is) in
    let three = and_parts (is_digit a 16 && is_digit b 16) (is_digit c 16) all.0 in
    let two = and_parts (is_digit a 16) (is_digit b 16) three.0 in
    (two.0, two.1, three.1, all.1)

pub unit_of_digits : (a b c d : ℕ) → digit_value a < 16 → digit_value b < 16 → digit_value c < 16 → digit_value d < 16
    → code_unit a b c d ≡ Some (digit_value a * 4096 + digit_value b * 256 + digit_value c * 16 + digit_value d)
unfolding code_unit
unit_of_digits a b c d p q r s =
    λ i. cond (lt-ltb (digit_value a) 16 p i
    && lt-ltb (digit_value b) 16 q i && lt-ltb (digit_value c) 16 r i && lt-ltb (digit_value d) 16 s i)
    (Some (digit_value a * 4096 + digit_value b * 256 + digit_value c * 16 + digit_value d)) None

digit_is_plain : (x : ℕ) → is_digit x 16 ≡ true → is_plain x ≡ true
digit_is_plain x digit = grind (arith, nat_tests)

digit_is_ascii : (x : ℕ) → is_digit x 16 ≡ true → x < 128
digit_is_ascii x digit = grind (arith, nat_tests)

unit_goes_on : (a b c d u : ℕ) (xs : List ℕ) → code_unit a b c d ≡ Some u
    → lex in_string (92 ∷ 117 ∷ a ∷ b ∷ c ∷ d ∷ xs) ≡ lex in_string xs
unfolding lex
unit_goes_on a b c d u xs is =
    let digits = are_digits a b c d u is in
    let passes : (x : ℕ) (rest : List ℕ) → is_digit x 16 ≡ true → lex in_string (x ∷ rest) ≡ lex in_string rest =
    λ x rest digit. (IsDecodedBetween-plain x rest (digit_is_plain x digit)).goes_on in
    passes a (b ∷ c ∷ d ∷ xs) digits.0 ∙ passes b (c ∷ d ∷ xs) digits.1 ∙ passes c (d ∷ xs) digits.2
    ∙ passes d xs digits.3

abbrev decoded_after : List ℕ → ℕ → Option (List ℕ)
decoded_after xs u = cond (is_high_surrogate u) (content (after_high u) xs) (cond (is_low_surrogate u) None
    (prepend (encode_utf8 u) (content plain xs)))

unit_bytes : (a b c d u : ℕ) (xs : List ℕ) → code_unit a b c d ≡ Some u → is_high_surrogate u ≡ false
    → is_low_surrogate u ≡ false → IsDecodedBetween (92 ∷ 117 ∷ a ∷ b ∷ c ∷ d ∷ xs) (encode_utf8 u) xs
unfolding content
unit_bytes a b c d u xs is not_high not_low = record {
  bytes = ap (option_and_then (decoded_after xs)) is ∙ (λ i. cond (not_high i) (content (after_high u) xs)
      (cond (not_low i) None (prepend (encode_utf8 u) (content plain xs))));
  goes_on = unit_goes_on a b c d u xs is;
}

abbrev decoded_with_low : ℕ → List ℕ → ℕ → Option (List ℕ)
decoded_with_low high xs low =
    cond (is_low_surrogate low) (prepend (encode_utf8 (surrogate_pair high low)) (content plain xs)) None

pair_bytes : (a b c d high e f g h low : ℕ) (xs : List ℕ) → code_unit a b c d ≡ Some high → code_unit e f g h ≡ Some low
    → is_high_surrogate high ≡ true → is_low_surrogate low ≡ true
    → IsDecodedBetween (92 ∷ 117 ∷ a ∷ b ∷ c ∷ d ∷ 92 ∷ 117 ∷ e ∷ f ∷ g ∷ h ∷ xs)
    (encode_utf8 (surrogate_pair high low)) xs
unfolding content
pair_bytes a b c d high e f g h low xs first second is_high is_low =
    let after = 92 ∷ 117 ∷ e ∷ f ∷ g ∷ h ∷ xs in
    record {
      bytes = ap (option_and_then (decoded_after after)) first ∙ (λ i. cond (is_high i) (content
          (after_high high) after)
          (cond (is_low_surrogate high) None (prepend (encode_utf8 high) (content plain after))))
          ∙ ap (option_and_then (decoded_with_low high xs)) second
          ∙ (λ i. cond (is_low i) (prepend (encode_utf8 (surrogate_pair high low)) (content plain xs)) None);
      goes_on = unit_goes_on a b c d high after first ∙ unit_goes_on e f g h low xs second;
    }

-- ---- `\u` escapes at an index of a text

pub unit_within : (text : List ℕ) (at unit : ℕ) → SpellsUnit text at unit → at + 5 < length text
unit_within text at unit spells =
    let digit = (are_digits (get_or text (at + 2) 32) (get_or text (at + 3) 32) (get_or text (at + 4) 32)
    (get_or text (at + 5) 32) unit spells.digits).3 in
    lt_of_not-le
    (λ past. absurd (false≢true (ap (λ x. is_digit x 16) (sym (get_or_past text (at + 5) 32 past)) ∙ digit)))

unit_there : (text : List ℕ) (at unit : ℕ) → SpellsUnit text at unit
    → drop at text ≡ 92 ∷ 117 ∷ get_or text (at + 2) 32 ∷ get_or text (at + 3) 32 ∷ get_or text (at
    + 4) 32 ∷ get_or text (at + 5) 32 ∷ drop (at + 6) text
unit_there text at unit spells =
    let within = unit_within text at unit spells in
    let cons = λ (x : ℕ) (xs : List ℕ). x ∷ xs in
    drop_next text at (at + 1) refl (omega arith)
    ∙ ap₂ cons spells.backslash (drop_next text (at + 1) (at + 2) (omega arith) (omega arith) ∙ ap₂ cons spells.letter
    (drop_next text (at + 2) (at + 3) (omega arith) (omega arith) ∙ ap (cons (get_or text (at + 2) 32))
    (drop_next text (at + 3) (at + 4) (omega arith) (omega arith) ∙ ap (cons (get_or text (at + 3) 32))
    (drop_next text (at + 4) (at + 5) (omega arith) (omega arith)
    ∙ ap (cons (get_or text (at + 4) 32)) (drop_next text (at + 5) (at + 6) (omega arith) within)))))

pub unit_passed : (text : List ℕ) (at unit : ℕ) → SpellsUnit text at unit → IsUtf8UpTo text at (at + 6)
unit_passed text at unit spells =
    let digits = are_digits (get_or text (at + 2) 32) (get_or text (at + 3) 32) (get_or text (at + 4) 32) (get_or text
    (at + 5) 32) unit spells.digits in
    λ rest. subst IsUtf8 (sym (unit_there text at unit spells)) (utf8_cons _ _ (lit< tt) (utf8_cons _ _ (lit< tt)
    (utf8_cons _ _ (digit_is_ascii _ digits.0) (utf8_cons _ _ (digit_is_ascii _ digits.1)
    (utf8_cons _ _ (digit_is_ascii _ digits.2) (utf8_cons _ _ (digit_is_ascii _ digits.3) rest))))))

no_surrogate : (u : ℕ) → InScalarRange u → (is_high_surrogate u ≡ false) × (is_low_surrogate u ≡ false)
no_surrogate u scalar = (grind (arith, nat_tests), grind (arith, nat_tests))

pub IsDecodedBetween-unit : (text : List ℕ) (at unit : ℕ) → SpellsUnit text at unit → InScalarRange unit
    → IsDecodedBetween (drop at text) (encode_utf8 unit) (drop (at + 6) text)
IsDecodedBetween-unit text at unit spells scalar =
    let none = no_surrogate unit scalar in
    subst (λ before. IsDecodedBetween before (encode_utf8 unit) (drop (at + 6) text))
    (sym (unit_there text at unit spells)) (unit_bytes _ _ _ _ unit (drop (at + 6) text) spells.digits none.0 none.1)

pub IsDecodedBetween-pair : (text : List ℕ) (at high low : ℕ) → SpellsUnit text at high → SpellsUnit text (at + 6) low
    → is_high_surrogate high ≡ true → is_low_surrogate low ≡ true
    → IsDecodedBetween (drop at text) (encode_utf8 (surrogate_pair high low)) (drop (at + 12) text)
IsDecodedBetween-pair text at high low first second is_high is_low =
    let cons = λ (x : ℕ) (xs : List ℕ). x ∷ xs in
    let last : at + 6 + 6 ≡ at + 12 = omega arith in
    let all = unit_there text at high first ∙ ap (λ xs. 92 ∷ 117 ∷ get_or text (at + 2) 32 ∷ get_or text (at + 3) 32
    ∷ get_or text (at + 4) 32 ∷ get_or text (at + 5) 32 ∷ xs) (unit_there text (at + 6) low second) in
    subst (λ k. IsDecodedBetween (drop at text) (encode_utf8 (surrogate_pair high low)) (drop k text)) last
    (subst (λ before. IsDecodedBetween before (encode_utf8 (surrogate_pair high low)) (drop (at + 6 + 6) text))
    (sym all) (pair_bytes _ _ _ _ high _ _ _ _ low (drop (at + 6 + 6) text) first.digits second.digits is_high is_low))
