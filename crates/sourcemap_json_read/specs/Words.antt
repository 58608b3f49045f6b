-- Words of a JSON text: numbers, and the literals `true`, `false` and `null`.
use Rattle.std.specs.Prelude.{◌≡◌, ℕ, ◌+◌, List, ◌++◌, drop, length, true}
use Rattle.std.specs.Str.Parse.{AllDigits, digits_value}
use Rattle.json.specs.Word.{ends_word}

-- the bytes from index `from` to index `end`, exclusive, are `word`. Punctuation, white space or the end of the text
-- follows `word`
abbrev pub IsWordAt : List ℕ → ℕ → List ℕ → ℕ → Type 0
IsWordAt text from word end = (drop from text ≡ word ++ drop end text) × (ends_word (drop end text) ≡ true)

-- the bytes from index `from` to index `end`, exclusive, are decimal digits. `value` is the number that these digits
-- give, or 0 if there are no digits
pub record AreDigits (text : List ℕ) (from value end : ℕ) : Type 0 where
  pub digits : List ℕ
  pub split : drop from text ≡ digits ++ drop end text
  pub all : AllDigits 10 digits
  pub value_is : digits_value 10 digits ≡ value
  pub size : end ≡ from + length digits
