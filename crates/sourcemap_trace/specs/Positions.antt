-- Lists of generated positions, one position on each line. A position is written as `12:5`: the line, a colon
-- and the column. `first` is the number that the first line and the first column have in the list: 0, or 1 as in
-- stack traces. A position itself, a pair of numbers, always counts from 0.
use Rattle.std.specs.Prelude.{ℕ, ◌==◌, ◌+◌, ◌-◌, ◌&&◌, nat_le, nat_lt, if◌then◌else◌, Bool, List, [], ◌∷◌, length, Option, Some, None, option_and_then, option_map}
use Rattle.std.specs.Char.{is_ascii_digit}
use Rattle.std.specs.List.{after_first, before_first, list_all, slice_split}
use Rattle.std.specs.Str.Parse.{digits_value}
use Rattle.sourcemap_trace.specs.declared.positions.Counting.{Counting}
use Rattle.sourcemap_trace.specs.declared.positions.Counting.TheVariants.{From0, From1}

-- the number of the first line and of the first column
abbrev pub first_of : Counting → ℕ
first_of From0 = 0
first_of From1 = 1

abbrev pub is_newline : ℕ → Bool
is_newline byte = byte == 10

abbrev pub is_colon : ℕ → Bool
is_colon byte = byte == 58

-- the parts of a text, without the last part if it is empty
abbrev pub without_empty_last : List (List ℕ) → List (List ℕ)
without_empty_last [] = []
without_empty_last (part ∷ []) = if length part == 0 then [] else part ∷ []
without_empty_last (part ∷ next ∷ parts) = part ∷ without_empty_last (next ∷ parts)

-- the lines of a text. Only newlines separate lines, and after a newline at the end of the text there is no
-- further line
abbrev pub lines_of : List ℕ → List (List ℕ)
lines_of text = without_empty_last (slice_split is_newline text)

-- whether a text consists of one or more ASCII digits, and its value is at least `first` and at most
-- `first + 4294967295`; leading zeros are allowed
abbrev pub is_number : (first : ℕ) → List ℕ → Bool
is_number first text =
    nat_lt 0 (length text)
    && (list_all is_ascii_digit text
    && (nat_le first (digits_value 10 text) && nat_le (digits_value 10 text) (first + 4294967295)))

-- the number that a text gives, counted from 0
abbrev pub number_of : (first : ℕ) → List ℕ → Option ℕ
number_of first text = if is_number first text then Some (digits_value 10 text - first) else None

-- the position that a line names: a number, a colon and a number, and nothing else; `None` for any other line
abbrev pub position_of : (first : ℕ) → List ℕ → Option (ℕ × ℕ)
position_of first line =
    option_and_then (λ row. option_map (λ col. (row, col)) (number_of first (after_first is_colon line)))
    (number_of first (before_first is_colon line))
