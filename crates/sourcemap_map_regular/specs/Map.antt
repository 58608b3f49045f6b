-- A regular source map as contracts see it, and its meaning. Texts are lists of bytes, and an id is an
-- index in a list of texts. Lines and columns count from 0, columns in UTF-16 units.
use Rattle.std.specs.Prelude.{◌≡◌, ℕ, ◌+◌, List, [], length, map, min, slice_get, Bool, Option, None, option_map}
use Rattle.sourcemap_tokens.specs.declared.tokens.RawToken.{RawToken}
use Rattle.sourcemap_tokens.specs.Tokens.{AllWithin, in_order, closest_token}
use Rattle.sourcemap_tokens.specs.Items.{item_at}
use Rattle.sourcemap_map_parts.specs.Sources.{resolved}
pub use Rattle.sourcemap_compose.specs.Moved.{distance}
pub use Rattle.sourcemap_map_parts.specs.Contents.{fitted}

-- the parts of a map
pub record MapValue : Type 0 where
  pub file : Option (List ℕ)
  pub root : Option (List ℕ)
  pub tokens : List RawToken
  pub names : List (List ℕ)
  pub sources : List (List ℕ)
  pub contents : List (Option (List ℕ))
  pub ignored : List ℕ
  pub debug_id : Option (List ℕ)

-- the sources resolved against `sourceRoot`
abbrev pub resolved_sources : MapValue → List (List ℕ)
resolved_sources m = map (resolved m.root) m.sources

-- the map of these parts, with its tokens sorted stably by generated position, no root, an empty ignore list and no
-- debug id
abbrev pub made_of : Option (List ℕ) → List RawToken → List (List ℕ) → List (List ℕ) → List (Option (List ℕ)) → MapValue
made_of file tokens names sources contents = record {
  file = file;
  root = None;
  tokens = in_order tokens;
  names = names;
  sources = sources;
  contents = contents;
  ignored = [];
  debug_id = None;
}

-- each token has the id of a source of the map, or it has no source, no original position and no name
abbrev pub IsWellFormed : MapValue → Type 0
IsWellFormed m = AllWithin (length m.sources) (length m.names) m.tokens

-- Meaning.

-- what a token says of a generated position: source, line and column in the source, name, and whether the
-- token is a range token
pub record Meaning : Type 0 where
  pub source : Option (List ℕ)
  pub line : ℕ
  pub column : ℕ
  pub name : Option (List ℕ)
  pub is_range : Bool

abbrev pub source_of : MapValue → ℕ → Option (List ℕ)
source_of m id = slice_get (resolved_sources m) id

abbrev pub name_of : MapValue → ℕ → Option (List ℕ)
name_of m id = slice_get m.names id

-- the contents that the map has for this source id, if it has any. The map may have contents for an id even if no
-- source has this id
abbrev pub contents_of : MapValue → ℕ → Option (List ℕ)
contents_of m id = item_at m.contents id

-- the sum of `column` and `distance`, but at most 4294967295
abbrev pub column_after : ℕ → ℕ → ℕ
column_after column distance = min (column + distance) 4294967295

-- the meaning that a token gives to a generated position. `extra_columns` is added to the original column of the token;
-- the sum is at most 4294967295
abbrev pub meaning_of : MapValue → RawToken → ℕ → Meaning
meaning_of m token extra_columns = record {
  source = source_of m token.src_id;
  line = token.src_line;
  column = column_after token.src_col extra_columns;
  name = name_of m token.name_id;
  is_range = token.is_range;
}

-- a token of a map: its fields, its index among the tokens of the map, and the columns that a lookup adds to its
-- original column
pub record TokenValue : Type 0 where
  pub map_of : MapValue
  pub raw : RawToken
  pub index : ℕ
  pub extra_columns : ℕ

-- the meaning of a token
abbrev pub says : TokenValue → Meaning
says t = meaning_of t.map_of t.raw t.extra_columns

-- the token closest to a generated position, if there is one
abbrev pub lookup : MapValue → ℕ × ℕ → Option TokenValue
lookup m p = option_map
    (λ found. record { map_of = m; raw = found.1; index = found.0; extra_columns = distance found.1 p })
    (closest_token m.tokens p)

-- the meaning of a generated position: the meaning of the closest token, if there is one
abbrev pub meaning : MapValue → ℕ × ℕ → Option Meaning
meaning m p = option_map says (lookup m p)

-- both maps give every position the same meaning
abbrev pub MeansTheSame : MapValue → MapValue → Type 0
MeansTheSame m n = (p : ℕ × ℕ) → meaning m p ≡ meaning n p
