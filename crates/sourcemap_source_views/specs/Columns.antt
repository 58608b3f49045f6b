-- Columns of a line in UTF-16 units: their offsets in bytes, and the slice between two columns.
use Rattle.std.specs.Prelude.{◌≡◌, ℕ, ◌+◌, ◌-◌, cond, nat_lt, nat_le, List, [], ◌∷◌, length, take, drop, map, Option}
use Rattle.std.specs.Prelude.{None, Some, option_map}
use Rattle.std.specs.List.{find}
use Rattle.std.specs.Str.{IsCharBoundary, chars, encode_utf8_all}

-- the number of UTF-16 units of a character
abbrev pub units_of : ℕ → ℕ
units_of character = cond (nat_lt character 0x1_0000) 1 2

-- the number of UTF-16 units of characters
abbrev pub width : List ℕ → ℕ
width [] = 0
width (character ∷ characters) = units_of character + width characters

-- the prefixes of a list, from the empty one to the whole list
abbrev pub prefixes : List ℕ → List (List ℕ)
prefixes [] = [] ∷ []
prefixes (character ∷ characters) = [] ∷ map (λ prefix. character ∷ prefix) (prefixes characters)

-- the shortest prefix with at least `col` UTF-16 units; `None` if the characters have fewer
abbrev pub first_reaching : ℕ → List ℕ → Option (List ℕ)
first_reaching col characters = find (λ prefix. nat_le col (width prefix)) (prefixes characters)

-- the byte offset of a column in a line: the first character boundary with at least `col` UTF-16 units before it;
-- `None` if the line is too short
abbrev pub column_offset : List ℕ → ℕ → Option ℕ
column_offset line col = option_map (λ prefix. length (encode_utf8_all prefix)) (first_reaching col (chars line))

-- `offset` if `units` is at least `col`, otherwise `None`; `units` is the number of UTF-16 units before `offset`
abbrev pub reached_offset : (col offset units : ℕ) → Option ℕ
reached_offset col offset units = cond (nat_le col units) (Some offset) None

-- `offset` is a character boundary of a line, and `units` is the number of UTF-16 units before it
abbrev pub IsOffset : List ℕ → (offset units : ℕ) → Type 0
IsOffset line offset units = IsCharBoundary line offset × (units ≡ width (chars (take offset line)))

-- the part of a line between two byte offsets; `None` if either offset is `None`
abbrev pub part_between : List ℕ → Option ℕ → Option ℕ → Option (List ℕ)
part_between line (Some start) (Some end) = Some (take (end - start) (drop start line))
part_between line _ _ = None

-- the slice of a line from column `col` up to column `col + span`, exclusive; `None` if the line has fewer than
-- `col + span` UTF-16 units
abbrev pub slice_of : List ℕ → (col span : ℕ) → Option (List ℕ)
slice_of line col span = part_between line (column_offset line col) (column_offset line (col + span))
