-- Bits as base64 digits: six bits per digit, lowest first.
use Rattle.std.specs.Prelude.{◌≡◌, ◌≢◌, ℕ, ◌+◌, ◌*◌, ◌/◌, ◌%◌, ◌<◌, ◌==◌, Bool, false, List, [], ◌∷◌, map, length}
use Rattle.std.specs.Prelude.{Option, Some, None, is_none, unwrap_or, find, slice_get, Result, Ok, Err}
use Rattle.std.specs.List.{slice_index_or}
use Rattle.std.specs.Option.{option_and_then}
use Rattle.std.specs.Int.{bit_at}
use Rattle.sourcemap_errors.specs.declared.errors.Error.{Error}
use Rattle.sourcemap_errors.specs.declared.errors.Error.TheVariants.{InvalidBase64}
use Rattle.sourcemap_vlq.specs.Vlq.{digit_value}

-- the value of digit k. The value is 0 if k is past the end of the text, or if byte k is not a digit
abbrev pub value_at : List ℕ → ℕ → ℕ
value_at text k = unwrap_or (option_and_then digit_value (slice_get text k)) 0

-- bit j of a text: bit j % 6 of digit j / 6
abbrev pub bit_of : List ℕ → ℕ → Bool
bit_of text j = bit_at (value_at text (j / 6)) (j % 6) == 1

-- the first byte that is not a digit
abbrev pub first_non_digit : List ℕ → Option ℕ
first_non_digit text = find (λ c. is_none (digit_value c)) text

-- the six lowest bits of a value, lowest first
abbrev pub six_of : ℕ → List Bool
six_of v = map (λ k. bit_at v k == 1) (0 ∷ 1 ∷ 2 ∷ 3 ∷ 4 ∷ 5 ∷ [])

-- the error `InvalidBase64` for the first byte that is not a digit
abbrev pub IsNonDigitError : List ℕ → Error → Type 0
IsNonDigitError text e = (c : ℕ) × (first_non_digit text ≡ Some c) × (e ≡ InvalidBase64 c)

-- the bits of a text of digits, six per digit
pub record AreBitsOf (text : List ℕ) (bits : List Bool) : Type 0 where
  pub digits : first_non_digit text ≡ None
  pub six_a_digit : length bits ≡ 6 * length text
  pub each : (j : ℕ) → j < length bits → slice_get bits j ≡ Some (bit_of text j)

-- the result of decoding a text: its bits, or the error for its first byte that is not a digit
abbrev pub BitAnswers : List ℕ → Result (List Bool) Error → Type 0
BitAnswers text (Ok bits) = AreBitsOf text bits
BitAnswers text (Err e) = IsNonDigitError text e

-- the shortest text of bits: it ends with the digit of the last true bit, or is empty if no bit is true
pub record IsBitText (bits : List Bool) (text : List ℕ) : Type 0 where
  pub digits : first_non_digit text ≡ None
  pub each : (j : ℕ) → bit_of text j ≡ slice_index_or bits j false
  pub short : (k : ℕ) → length text ≡ k + 1 → value_at text k ≢ 0
