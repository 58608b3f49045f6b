-- A walk back along the tokens of a map: the identifier at each token's position, and the guessed name of a function.
use Rattle.std.specs.Prelude.{◌≡◌, ℕ, List, [], ◌∷◌, Option, None, Some, ◌+◌, ◌&&◌, cond, take, drop, length, slice_get}
use Rattle.std.specs.Prelude.{option_map, codes}
use Rattle.std.specs.Option.{option_and_then}
use Rattle.std.specs.List.{take_while}
use Rattle.std.specs.Str.{IsCharBoundary, chars, encode_utf8_all, skip_leading_whitespace}
use Rattle.std.proofs.Props.{props}
use Rattle.sourcemap_source_views.specs.Columns.{column_offset, reached_offset}
use Rattle.sourcemap_source_views.specs.Identifiers.{is_identifier, is_part, is_text, token_at_start}
use Rattle.sourcemap_source_views.specs.Lines.{line_bodies}

-- line `number` of the text, 0-based and without its terminator, is `line`
abbrev pub HasLine : List ℕ → ℕ → List ℕ → Type 0
HasLine source number line = slice_get (line_bodies source) number ≡ Some line

pub HasLine-prop : (source : List ℕ) (number : ℕ) (line : List ℕ) → IsProp (HasLine source number line)
HasLine-prop source number line = hlevel props

pub ruleset sets = (props, HasLine-prop)

-- a position in a text: the line, and the byte offset in the line; `None` if there is no such line, or if the line is
-- too short
abbrev pub position_in : List ℕ → ℕ × ℕ → Option (List ℕ × ℕ)
position_in source position =
    option_and_then (λ body. option_map (λ at. (body, at)) (column_offset body position.1))
    (slice_get (line_bodies source) position.0)

-- the identifier at a position. The search takes the rest of the line from the position on. It finds the longest
-- identifier at the start of the first word of this rest. The identifier is `None` if the text has no such position, if
-- the rest has no word, or if its first word starts with no identifier
abbrev pub identifier_at : List ℕ → ℕ × ℕ → Option (List ℕ)
identifier_at source position =
    option_and_then (λ found. token_at_start (drop found.1 found.0)) (position_in source position)

-- the identifier that `token_at_start` finds in the rest of a line from `offset` on. `units` is the number of UTF-16
-- units before `offset`. The result is `None` if `units` is less than the column `col`, or if `token_at_start` finds no
-- identifier
abbrev pub identifier_from : List ℕ → (col offset units : ℕ) → Option (List ℕ)
identifier_from line col offset units =
    option_and_then (λ at. token_at_start (drop at line)) (reached_offset col offset units)

-- in a line, `word` is the offset of the first non-white-space character at or after `offset`, or the end of the line
-- if there is no such character
abbrev pub IsWord : List ℕ → (offset word : ℕ) → Type 0
IsWord line offset word =
    IsCharBoundary line word × (chars (drop word line) ≡ skip_leading_whitespace (chars (drop offset line)))

-- a run of characters in a line starts at the offset `word` and ends at the character boundary `end`. Every character
-- of the run can continue an identifier, and the run is as long as possible. The run may be empty
abbrev pub IsWordEnd : List ℕ → (word end : ℕ) → Type 0
IsWordEnd line word end =
    IsCharBoundary line end × (end ≡ word + length (encode_utf8_all (take_while is_part (chars (drop word line)))))

-- tokens, each with the identifier at its position
abbrev pub walked : {S : Type 0} → (S → ℕ × ℕ) → List ℕ → List S → List (S × Option (List ℕ))
walked position_value source [] = []
walked position_value source (token ∷ tokens) =
    (token, identifier_at source (position_value token)) ∷ walked position_value source tokens

-- the first token with the identifier `name` whose next token in the list has the identifier `function`; `None` if
-- there is no such token
abbrev pub function_token : {S : Type 0} → List ℕ → List (S × Option (List ℕ)) → Option S
function_token name [] = None
function_token name (item ∷ []) = None
function_token name (item ∷ next ∷ items) =
    cond (is_text name item.1 && is_text (codes "function") next.1) (Some item.0) (function_token name (next ∷ items))

-- the original name of the token that `function_token` finds for the minified name `name` among the first 128 tokens.
-- `None` if `name` is no identifier, if `function_token` finds none, or if the found token has no original name
abbrev pub guessed_name : {S : Type 0} → (S → ℕ × ℕ) → (S → Option (List ℕ)) → List ℕ → List ℕ → List S
    → Option (List ℕ)
guessed_name position_value name_of source name tokens =
    cond (is_identifier (chars name))
    (option_and_then name_of (function_token name (take 128 (walked position_value source tokens)))) None
