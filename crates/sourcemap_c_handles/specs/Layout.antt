-- The structs of the C header for tokens and for results of lookups.
use Rattle.std.specs.Prelude.{Option, Some, None, false, true}
use Rattle.sourcemap_tokens.specs.declared.tokens.RawToken.{RawToken}
use Rattle.sourcemap_map_regular.specs.Token.{TokenValue, says}
use Rattle.sourcemap_c_handles.specs.declared.layout.Found.{Found}
use Rattle.sourcemap_c_handles.specs.declared.layout.MapToken.{MapToken}

-- the `MapToken` with the fields of `raw`
abbrev pub map_token : RawToken → MapToken
map_token raw = record {
  line = raw.dst_line;
  column = raw.dst_col;
  original_line = raw.src_line;
  original_column = raw.src_col;
  source = raw.src_id;
  name = raw.name_id;
  is_range = raw.is_range;
}

abbrev pub raw_token : MapToken → RawToken
raw_token token = record {
  dst_line = token.line;
  dst_col = token.column;
  src_line = token.original_line;
  src_col = token.original_column;
  src_id = token.source;
  name_id = token.name;
  is_range = token.is_range;
}

-- The `MapToken` of a token that a lookup found. `original_column` is the sum of `token.raw.src_col` and
-- `token.extra_columns`, but at most 4294967295. The other fields are those of `token.raw`. `extra_columns` is 0 unless
-- the token is a range token on the line of the looked-up position.
abbrev pub found_token : TokenValue → MapToken
found_token token =
    record (map_token token.raw) { original_line = (says token).line; original_column = (says token).column }

-- The result of a lookup. `Some token` means that the lookup found `token`. `None` means that the lookup found no
-- token. Then all numbers in the result are 0, and `is_range` and `found` are false.
abbrev pub found_in : Option TokenValue → Found
found_in None = record {
  token =
      record { line = 0; column = 0; original_line = 0; original_column = 0; source = 0; name = 0; is_range = false };
  found = false;
}
found_in (Some token) = record { token = found_token token; found = true }
