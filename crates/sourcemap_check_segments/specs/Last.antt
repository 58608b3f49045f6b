-- The last generated position of a text: the greatest column of the last line that has one.
use Rattle.std.specs.Prelude.{ℕ, ◌+◌, ◌&&◌, max, min, if◌then◌else◌, List, [], ◌∷◌, ◌++◌, Option, Some, None}
use Rattle.std.specs.Prelude.{option_map}
use Rattle.std.specs.Prelude.{unwrap_or, fold, pos, int_le, unsigned_abs}
use Rattle.std.specs.Option.{option_or}
use Rattle.sourcemap_check_segments.specs.declared.last.Position.{Position}
use Rattle.sourcemap_check_segments.specs.Segments.{page_of, is_sound, sum_at}

-- the column of a segment, if the segment is sound and its column is not below 0. `line` are the segments of its line
-- up
-- to and including it. A column stops at 18446744073709551615
abbrev pub column_at : (line : List (List ℕ)) → List ℕ → List ℕ
column_at line segment =
    if is_sound segment && int_le (pos 0) (sum_at 0 line)
    then min (unsigned_abs (sum_at 0 line)) 18446744073709551615 ∷ [] else []

-- the columns of successive segments of a line, after the segments `here`
abbrev pub columns_in : (here segments : List (List ℕ)) → List ℕ
columns_in here [] = []
columns_in here (segment ∷ later) =
    column_at (here ++ segment ∷ []) segment ++ columns_in (here ++ segment ∷ []) later

-- the greatest of `best` and these columns
abbrev pub greatest_from : Option ℕ → List ℕ → Option ℕ
greatest_from best columns = fold (λ b c. Some (max c (unwrap_or b 0))) best columns

-- the last position of successive lines, the first of which is line n; `best` if they have none
abbrev pub last_from : Option Position → ℕ → List (List (List ℕ)) → Option Position
last_from best n [] = best
last_from best n (line ∷ lines) =
    last_from
    (option_or (option_map (λ c. record { line = n; column = c }) (greatest_from None (columns_in [] line))) best)
    (n + 1) lines

abbrev pub last_position : List ℕ → Option Position
last_position text = last_from None 0 (page_of text)
