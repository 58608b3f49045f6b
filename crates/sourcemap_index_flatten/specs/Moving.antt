-- Tokens moved by the offset of their map, with the source ids and name ids of the flattened map.
use Rattle.std.specs.Prelude.{◌≡◌, ℕ, Bool, false, nat_eq, List, ◌++◌, map, filter, slice_get, unwrap_or}
use Rattle.std.specs.List.{list_any}
use Rattle.sourcemap_tokens.specs.Tokens.{destination, no_id}
use Rattle.sourcemap_tokens.specs.declared.tokens.RawToken.{RawToken}
use Rattle.sourcemap_index_model.specs.Flat.{passes_the_end}
use Rattle.sourcemap_index_model.specs.FlatList.{absolute_position}
use Rattle.sourcemap_index_flatten.specs.declared.moving.Move.{Move}

abbrev pub new_number : List ℕ → ℕ → ℕ
new_number numbers id = unwrap_or (slice_get numbers id) no_id

abbrev pub position_by : Move → RawToken → ℕ × ℕ
position_by to t = absolute_position (to.line, to.column) (destination t)

abbrev pub is_past_end : Move → RawToken → Bool
is_past_end to t = passes_the_end (position_by to t)

abbrev pub moved_by : Move → RawToken → RawToken
moved_by to t = record t {
  dst_line = (position_by to t).0;
  dst_col = (position_by to t).1;
  src_id = new_number to.sources.now t.src_id;
  name_id = new_number to.names.now t.name_id;
}

pub record IsMoved (to : Move) (t moved : RawToken) : Type 0 where
  pub is : moved ≡ moved_by to t
  pub within : is_past_end to t ≡ false

pub record AreMoved (to : Move) (tokens old new : List RawToken) : Type 0 where
  pub appended : new ≡ old ++ map (moved_by to) tokens
  pub within : list_any (is_past_end to) tokens ≡ false

-- the new source id of each token whose old source id is ignored, in the order of the tokens
abbrev pub ignored_numbers : (ignored sources : List ℕ) → List RawToken → List ℕ
ignored_numbers ignored sources tokens =
    map (λ t. new_number sources t.src_id) (filter (λ t. list_any (nat_eq t.src_id) ignored) tokens)
