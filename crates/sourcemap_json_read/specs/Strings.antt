-- Parts of JSON strings, and the bytes that they decode to.
use Rattle.std.specs.Prelude.{◌≡◌, ℕ, ◌+◌, ◌<◌, List, ◌++◌, drop, get_or, Bool, IsTrue, Some}
use Rattle.std.specs.Str.{IsUtf8}
use Rattle.json.specs.Ascii as ascii
use Rattle.json.specs.Text.{code_unit, content, plain, prepend, short_escape}
use Rattle.json.specs.Lex.{lex, in_string}

-- If the text from `at` on is UTF-8, so is the text from `from` on.
abbrev pub IsUtf8UpTo : List ℕ → ℕ → ℕ → Type 0
IsUtf8UpTo text from at = IsUtf8 (drop at text) → IsUtf8 (drop from text)

-- The rest of a string decodes to `found`, if `keeps` is true. If not, it decodes to some bytes.
abbrev pub DecodesTo : Bool → List ℕ → List ℕ → Type 0
DecodesTo keeps rest found =
    (decoded : List ℕ) × (content plain rest ≡ Some decoded) × (IsTrue keeps → decoded ≡ found)

-- `before` and `after` begin within a string. Each is decoded up to the closing quote: `before` gives `decoded`,
-- followed by the bytes that `after` gives; or both are invalid. The tokens, commas and colons after the closing quote
-- are the same.
pub record IsDecodedBetween (before decoded after : List ℕ) : Type 0 where
  pub bytes : content plain before ≡ prepend decoded (content plain after)
  pub goes_on : lex in_string before ≡ lex in_string after

-- A step decodes a part of a string. Before the step, the decoded bytes are `old`, and the rest of the string begins at
-- index `from`. After the step, the decoded bytes are `new`, and the rest begins at index `at`. `old` followed by the
-- decoded rest from `from` on equals `new` followed by the decoded rest from `at` on; or both rests are invalid. The
-- tokens, commas and colons after the closing quote are the same before and after the step. `old` and `new` may end
-- within a character. If `new` followed by the text from `at` on is UTF-8, then `old` followed by the text from `from`
-- on is UTF-8.
pub record IsReadUpTo (old text : List ℕ) (from : ℕ) (new : List ℕ) (at : ℕ) : Type 0 where
  pub bytes : prepend new (content plain (drop at text)) ≡ prepend old (content plain (drop from text))
  pub goes_on : lex in_string (drop at text) ≡ lex in_string (drop from text)
  pub utf8 : IsUtf8 (new ++ drop at text) → IsUtf8 (old ++ drop from text)

-- The two bytes at `at` are an escape that decodes to `byte`.
pub record SpellsByte (text : List ℕ) (at byte : ℕ) : Type 0 where
  pub backslash : get_or text at 0 ≡ ascii.backslash
  pub letter : short_escape (get_or text (at + 1) 0) ≡ Some byte
  pub ascii : (byte < 128) × (get_or text (at + 1) 0 < 128)

-- The six bytes at `at` are the `\u` escape of a UTF-16 code unit.
pub record SpellsUnit (text : List ℕ) (at unit : ℕ) : Type 0 where
  pub backslash : get_or text at 32 ≡ ascii.backslash
  pub letter : get_or text (at + 1) 32 ≡ ascii.lower_u
  pub digits : code_unit (get_or text (at + 2) 32) (get_or text (at + 3) 32) (get_or text (at + 4) 32) (get_or text
      (at + 5) 32) ≡ Some unit
