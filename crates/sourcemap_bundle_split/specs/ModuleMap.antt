-- The map of a module: the tokens of the flat map in the module's text, and the sources and names of these tokens.
use Rattle.std.specs.Prelude.{◌≡◌, ℕ, ◌+◌, ◌-◌, ◌==◌, ◌&&◌, Bool, not, nat_lt, if◌then◌else◌, List, [], ◌∷◌, ◌++◌}
use Rattle.std.specs.Prelude.{length, map, filter, fold, slice_get, Option, Some, None, is_none, option_map, unwrap_or}
use Rattle.std.specs.Ordering.{is_lt}
use Rattle.std.specs.Str.{chars}
use Rattle.sourcemap_tokens.specs.Items.{item_at}
use Rattle.sourcemap_tokens.specs.Tokens.{destination, no_id, position_cmp}
use Rattle.sourcemap_tokens.specs.declared.tokens.RawToken.{RawToken}
use Rattle.sourcemap_source_views.specs.Columns.{width}
use Rattle.sourcemap_source_views.specs.Lines.{line_bodies}
use Rattle.sourcemap_map_regular.specs.Map.{MapValue, resolved_sources}

-- the last line of a text
abbrev pub last_line : List ℕ → List ℕ
last_line text = unwrap_or (slice_get (line_bodies text) (length (line_bodies text) - 1)) []

-- The end position of a text that begins at column 0 of `line`. The end line is `line` plus the number of line
-- terminators in the text. The end column is the length of the text's last line in UTF-16 units.
abbrev pub end_of : ℕ → List ℕ → ℕ × ℕ
end_of line text = (line + (length (line_bodies text) - 1), width (chars (last_line text)))

-- the position `p` is at or after column 0 of `line`, and before `end`
abbrev pub is_in : ℕ → ℕ × ℕ → ℕ × ℕ → Bool
is_in line end p = not (is_lt (position_cmp p (line, 0))) && is_lt (position_cmp p end)

-- the position `p`, with its line counted from `line`
abbrev pub lowered_to : ℕ → ℕ × ℕ → ℕ × ℕ
lowered_to line p = (p.0 - line, p.1)

-- the number of an id in a list of ids: how many ids come before it; `None` if it is not in the list
abbrev pub number_of : List ℕ → ℕ → Option ℕ
number_of [] id = None
number_of (k ∷ ids) id = if k == id then Some 0 else option_map (λ n. n + 1) (number_of ids id)

-- the list of ids, with `id` appended if it is below `count` and not yet in the list
abbrev pub with_id : ℕ → List ℕ → ℕ → List ℕ
with_id count ids id = if nat_lt id count && is_none (number_of ids id) then ids ++ id ∷ [] else ids

-- the ids of the list that are below `count`, each once, in the order of first use
abbrev pub used_ids : ℕ → List ℕ → List ℕ
used_ids count ids = fold (with_id count) [] ids

-- the texts with these ids; an id without a text gives an empty text
abbrev pub texts_at : List (List ℕ) → List ℕ → List (List ℕ)
texts_at texts ids = map (λ id. unwrap_or (slice_get texts id) []) ids

-- The token with its generated line counted from `line`. The new source id is the index of the old source id in
-- `sources`, or `no_id` if `sources` lacks the old id. `names` determines the new name id in the same way.
abbrev pub moved_by : ℕ → List ℕ → List ℕ → RawToken → RawToken
moved_by line sources names t = record t {
  dst_line = t.dst_line - line;
  src_id = unwrap_or (number_of sources t.src_id) no_id;
  name_id = unwrap_or (number_of names t.name_id) no_id;
}

-- the tokens at or after column 0 of `line`, and before `end`
abbrev pub tokens_in : ℕ → ℕ × ℕ → List RawToken → List RawToken
tokens_in line end tokens = filter (λ t. is_in line end (destination t)) tokens

-- The source ids of the tokens in `tokens_in line end flat.tokens`. The list has only ids below `length flat.sources`,
-- each once, in the order of first use. `names_in` does the same for name ids below `length flat.names`.
abbrev pub sources_in : MapValue → ℕ → ℕ × ℕ → List ℕ
sources_in flat line end = used_ids (length flat.sources) (map (λ t. t.src_id) (tokens_in line end flat.tokens))

abbrev pub names_in : MapValue → ℕ → ℕ × ℕ → List ℕ
names_in flat line end = used_ids (length flat.names) (map (λ t. t.name_id) (tokens_in line end flat.tokens))

-- The map of the module `name`. The module begins at column 0 of `line` of the flat map, and ends at `end`. The map of
-- the module has the flat map's tokens at or after this start, and before `end`. Their generated lines count from
-- `line`. The map also has the resolved sources (with contents) and the names that these tokens use, both in the order
-- of first use.
abbrev pub module_map : MapValue → List ℕ → ℕ → ℕ × ℕ → MapValue
module_map flat name line end = record {
  file = Some name;
  root = None;
  tokens = map (moved_by line (sources_in flat line end) (names_in flat line end)) (tokens_in line end flat.tokens);
  names = texts_at flat.names (names_in flat line end);
  sources = texts_at (resolved_sources flat) (sources_in flat line end);
  contents = map (item_at flat.contents) (sources_in flat line end);
  ignored = [];
  debug_id = None;
}
