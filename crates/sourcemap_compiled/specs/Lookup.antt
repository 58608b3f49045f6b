-- What a position means in a compiled map.
use Rattle.std.specs.Prelude.{◌≡◌, ℕ, ◌+◌, ◌-◌, ◌<◌, ◌≤◌, nat_lt, if◌then◌else◌, List, Bool, min, Option, Some, None}
use Rattle.std.specs.Prelude.{option_map, Result}
use Rattle.sourcemap_tokens.specs.declared.tokens.RawToken.{RawToken}
use Rattle.sourcemap_tokens.specs.Tokens.{AreInOrder, closest_token, destination}
use Rattle.sourcemap_compose.specs.Moved.{distance}
use Rattle.sourcemap_compiled.specs.Layout.{token_count}
use Rattle.sourcemap_compiled.specs.Blocks.{compiled_token, compiled_tokens}
use Rattle.sourcemap_compiled.specs.Numbers.{position_number}
use Rattle.sourcemap_compiled.specs.Texts.{compiled_name, compiled_scope, compiled_source}
use Rattle.sourcemap_compiled.specs.declared.errors.CompiledMapError.{CompiledMapError}

-- the generated position of the token with this index, as one number
abbrev pub position_of : List ℕ → ℕ → ℕ
position_of bytes index = position_number (destination (compiled_token bytes index))

-- the tokens are sorted by generated position
pub record IsInOrder (bytes : List ℕ) : Type 0 where
  pub tokens : AreInOrder (compiled_tokens bytes)

-- the token with this index is at or after a position, given as one number, and the token ahead of it is before the
-- position. An index equal to the number of tokens stands for the end. In order: the first token at or after it
pub record IsFirstAt (bytes : List ℕ) (position index : ℕ) : Type 0 where
  pub within : index ≤ token_count bytes
  pub before : 0 < index → position_of bytes (index - 1) < position
  pub from : index < token_count bytes → position ≤ position_of bytes index

-- the token with this index is at the position, and the token ahead of it is not; or it is before the position, and the
-- token that follows is after it. In order: the closest token
pub record IsNextTo (bytes : List ℕ) (position index : ℕ) : Type 0 where
  pub within : index < token_count bytes
  pub at_most : position_of bytes index ≤ position
  pub first : position_of bytes index ≡ position → 0 < index → position_of bytes (index - 1) < position
  pub last : position_of bytes index < position → index + 1 < token_count bytes
      → position < position_of bytes (index + 1)

-- the first token, if there is one, is after a position
abbrev pub StartsAfter : List ℕ → ℕ → Type 0
StartsAfter bytes position = 0 < token_count bytes → position < position_of bytes 0

-- a token of a compiled map: the bytes of the map, the fields of the token, its index, and the columns that a lookup
-- adds to its original column
pub record CompiledTokenValue : Type 0 where
  pub bytes : List ℕ
  pub raw : RawToken
  pub index : ℕ
  pub extra_columns : ℕ

-- what a token says of a generated position: source, line and column in the source, name, scope, and whether the token
-- is a range token. Source, name and scope are none or the bytes of a text, or an error if the file is damaged
pub record CompiledMeaning : Type 0 where
  pub source : Result (Option (List ℕ)) CompiledMapError
  pub line : ℕ
  pub column : ℕ
  pub name : Result (Option (List ℕ)) CompiledMapError
  pub scope : Result (Option (List ℕ)) CompiledMapError
  pub is_range : Bool

-- the meaning of a token
abbrev pub says : CompiledTokenValue → CompiledMeaning
says t = record {
  source = compiled_source t.bytes t.raw.src_id;
  line = t.raw.src_line;
  column = min (t.raw.src_col + t.extra_columns) 4294967295;
  name = compiled_name t.bytes t.raw.name_id;
  scope = compiled_scope t.bytes t.index;
  is_range = t.raw.is_range;
}

-- the token with this index, if there is one
abbrev pub token_at : List ℕ → ℕ → Option CompiledTokenValue
token_at bytes index =
    if nat_lt index (token_count bytes)
    then Some (record { bytes = bytes; raw = compiled_token bytes index; index = index; extra_columns = 0 })
    else None

-- the token with this index, as an answer to a generated position
abbrev pub answer_by : List ℕ → ℕ × ℕ → ℕ → CompiledTokenValue
answer_by bytes p index = record {
  bytes = bytes;
  raw = compiled_token bytes index;
  index = index;
  extra_columns = distance (compiled_token bytes index) p;
}

-- the token closest to a generated position, if there is one
abbrev pub lookup : List ℕ → ℕ × ℕ → Option CompiledTokenValue
lookup bytes p = option_map
    (λ found. record { bytes = bytes; raw = found.1; index = found.0; extra_columns = distance found.1 p })
    (closest_token (compiled_tokens bytes) p)

-- the meaning of a generated position: the meaning of the closest token, if there is one
abbrev pub compiled_meaning : List ℕ → ℕ × ℕ → Option CompiledMeaning
compiled_meaning bytes p = option_map says (lookup bytes p)
