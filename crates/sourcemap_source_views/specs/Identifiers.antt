-- Identifiers of JavaScript.
use Rattle.std.specs.Prelude.{ℕ, ◌==◌, nat_le, Bool, true, false, ◌&&◌, ◌||◌, cond, List, [], ◌∷◌, Option, None, Some}
use Rattle.std.specs.List.{list_all, take_while}
use Rattle.std.specs.Char.{is_ascii_alphabetic, is_ascii_digit, is_not_whitespace}
use Rattle.std.specs.Str.{bytes_eq, chars, encode_utf8_all, skip_leading_whitespace}
use Rattle.unicode_ident.specs.Ident.{is_xid_start, is_xid_continue}

-- a character that can start an identifier: `$`, `_`, an ASCII letter, or non-ASCII with XID_Start
abbrev pub is_start : ℕ → Bool
is_start c = (((c == 36) || (c == 95)) || is_ascii_alphabetic c) || (nat_le 128 c && is_xid_start c)

-- a character that can continue an identifier: one that can start it, an ASCII digit, U+200C, U+200D,
-- or non-ASCII with XID_Continue
abbrev pub is_part : ℕ → Bool
is_part c =
    (((is_start c || is_ascii_digit c) || (c == 0x200C)) || (c == 0x200D)) || (nat_le 128 c && is_xid_continue c)

-- there is a first character, and it passes a test
abbrev pub first_passes : (ℕ → Bool) → List ℕ → Bool
first_passes test [] = false
first_passes test (c ∷ cs) = test c

-- the longest identifier at the start of characters, empty if there is none
abbrev pub identifier_at_start : List ℕ → List ℕ
identifier_at_start [] = []
identifier_at_start (c ∷ cs) = cond (is_start c) (c ∷ take_while is_part cs) []

-- all characters together are an identifier; the empty text counts as one
abbrev pub is_identifier : List ℕ → Bool
is_identifier [] = true
is_identifier (c ∷ cs) = is_start c && list_all is_part cs

-- the first word, where words are separated by white space; empty if there is no word
abbrev pub first_word : List ℕ → List ℕ
first_word characters = take_while is_not_whitespace (skip_leading_whitespace characters)

-- the UTF-8 text of characters; `None` if there are no characters
abbrev pub unless_empty : List ℕ → Option (List ℕ)
unless_empty [] = None
unless_empty (c ∷ cs) = Some (encode_utf8_all (c ∷ cs))

-- the longest identifier at the start of the first word of a text; `None` if there is no word, or if the word starts
-- with no identifier
abbrev pub token_at_start : List ℕ → Option (List ℕ)
token_at_start text = unless_empty (identifier_at_start (first_word (chars text)))

-- there is an identifier, and it is this text
abbrev pub is_text : List ℕ → Option (List ℕ) → Bool
is_text text None = false
is_text text (Some identifier) = bytes_eq identifier text
