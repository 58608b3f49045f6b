-- The tokens before a token, and the function names that are guessed from them.
use Rattle.std.specs.Prelude.{ℕ, suc, zero, List, [], ◌∷◌, Option, Some, None, option_and_then}
use Rattle.sourcemap_map_regular.specs.Map.{MapValue, TokenValue, says, lookup}
use Rattle.sourcemap_map_regular.specs.Token.{token_at}
use Rattle.sourcemap_source_views.specs.Walk.{guessed_name}

-- the token, followed by `tokens`. If there is no token, the list is empty, even if `tokens` is not empty
abbrev pub in_front : Option TokenValue → List TokenValue → List TokenValue
in_front None tokens = []
in_front (Some token) tokens = token ∷ tokens

-- all tokens before this index, in descending order of index. The list is empty if the index is greater than the number
-- of tokens
abbrev pub tokens_before : MapValue → ℕ → List TokenValue
tokens_before m zero = []
tokens_before m (suc index) = in_front (token_at m index) (tokens_before m index)

-- the generated position of a token
abbrev pub position_of : TokenValue → ℕ × ℕ
position_of t = (t.raw.dst_line, t.raw.dst_col)

abbrev pub name_of : TokenValue → Option (List ℕ)
name_of t = (says t).name

-- the original name of the function with the name `minified` in the generated text `source`. The name is guessed from
-- the token `t` and the tokens before `t`, at most 128 tokens in all. `None` if `guessed_name` finds no name
abbrev pub guessed_from : (source minified : List ℕ) → TokenValue → Option (List ℕ)
guessed_from source minified t = guessed_name position_of name_of source minified (t ∷ tokens_before t.map_of t.index)

-- the original name of the function with the name `minified` in the generated text `source`. `lookup` finds a token for
-- the generated position p. `guessed_from` guesses the name from this token. `None` if `lookup` finds no token, or if
-- `guessed_from` finds no name
abbrev pub function_name : MapValue → (source minified : List ℕ) → ℕ × ℕ → Option (List ℕ)
function_name m source minified p = option_and_then (guessed_from source minified) (lookup m p)
