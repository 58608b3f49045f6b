-- A token as contracts see it.
use Rattle.std.specs.Prelude.{ℕ, List, [], ◌++◌, drop, map, codes, slice_get, Option, option_map, unwrap_or}
use Rattle.std.specs.List.{enumerate_from}
use Rattle.std.specs.Fmt.{decimal}
use Rattle.sourcemap_map_regular.specs.Map.{MapValue, Meaning}
use Rattle.sourcemap_map_regular.specs.declared.token.Token.{Token}
pub use Rattle.sourcemap_map_regular.specs.Map.{TokenValue, says, lookup}

abbrev pub token_value : Token → TokenValue
token_value t = record { map_of = t.map.now; raw = t.raw; index = t.index; extra_columns = t.extra_columns }

-- the meaning of a token: what the getters `get_source`, `get_src`, `get_name` and `is_range` return
abbrev pub meaning_of_token : Token → Meaning
meaning_of_token t = says (token_value t)

-- the token at an index, if there is one
abbrev pub token_at : MapValue → ℕ → Option TokenValue
token_at m index =
    option_map (λ raw. record { map_of = m; raw = raw; index = index; extra_columns = 0 }) (slice_get m.tokens index)

-- the tokens from an index on
abbrev pub tokens_from : MapValue → ℕ → List TokenValue
tokens_from m index =
    map (λ entry. record { map_of = m; raw = entry.1; index = entry.0; extra_columns = 0 })
    (enumerate_from index (drop index m.tokens))

-- the text that `Display` writes, without the additions of the alternate form
abbrev pub token_text : Meaning → List ℕ
token_text says =
    unwrap_or says.source (codes "<unknown>") ++ codes ":" ++ decimal says.line ++ codes ":" ++ decimal says.column
    ++ unwrap_or (option_map (λ name. codes " name=" ++ name) says.name) []
