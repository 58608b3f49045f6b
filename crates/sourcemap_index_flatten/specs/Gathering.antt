-- Concatenation of maps, piece by piece.
use Rattle.std.specs.Prelude.{◌≡◌, ℕ, ◌≤◌, vec_len, List, ◌∷◌, [], ◌++◌, map, flat_map, None, Result, Ok, Err}
use Rattle.sourcemap_tokens.specs.Tokens.{in_order}
use Rattle.sourcemap_tokens.specs.declared.tokens.RawToken.{RawToken}
use Rattle.sourcemap_errors.specs.declared.errors.Error.{Error}
use Rattle.sourcemap_errors.specs.Answer.{UnlessMemory}
use Rattle.sourcemap_map_conversions.specs.FromRecord.{rising}
use Rattle.sourcemap_map_regular.specs.Map.{MapValue}
use Rattle.sourcemap_index_model.specs.Flat.{Piece, source_entries, token_in, ignored_in, with_piece}
use Rattle.sourcemap_index_model.specs.FlatList.{absolute_position}
use Rattle.sourcemap_index_flatten.specs.Errors.{GivesReason}
use Rattle.sourcemap_index_flatten.specs.Table.{TextEntry, IsTable, entry_values, entries_kept}
use Rattle.sourcemap_index_flatten.specs.declared.gathering.Gathering.{Gathering}
use Rattle.sourcemap_index_flatten.specs.declared.gathering.Part.{Part}
use Rattle.sourcemap_index_flatten.specs.declared.gathering.FlatMap.{FlatMap}

-- the entries of a map's names, which have no contents
abbrev pub name_entries : MapValue → List TextEntry
name_entries m = map (λ name. (name, None)) m.names

-- the source entries of all pieces
abbrev pub all_source_entries : List Piece → List TextEntry
all_source_entries pieces = flat_map (λ piece. source_entries piece.1) pieces

abbrev pub all_name_entries : List Piece → List TextEntry
all_name_entries pieces = flat_map (λ piece. name_entries piece.1) pieces

abbrev pub all_moved_tokens : List Piece → List RawToken
all_moved_tokens pieces = flat_map (λ piece. map (token_in pieces piece) piece.1.tokens) pieces

abbrev pub all_ignored_ids : List Piece → List ℕ
all_ignored_ids pieces = rising (flat_map (ignored_in pieces) pieces)

-- the piece, in an index map that itself starts at `offset`
abbrev pub moved_piece : ℕ × ℕ → Piece → Piece
moved_piece offset piece = (absolute_position offset piece.0, piece.1)

-- exactly these pieces were added, in this order
pub record Gathers (pieces : List Piece) (g : Gathering) : Type 0 where
  pub sources : IsTable (all_source_entries pieces) g.sources
  pub names : IsTable (all_name_entries pieces) g.names
  pub tokens : g.tokens.items ≡ all_moved_tokens pieces
  pub ignored : g.ignored.keys ≡ all_ignored_ids pieces

-- `part` has the tokens, the ignored ids and the names of `m`, and the resolved sources of `m` with their contents
pub record IsPartOf (m : MapValue) (part : Part) : Type 0 where
  pub tokens : part.tokens.now ≡ m.tokens
  pub ignored : part.ignored.now.keys ≡ m.ignored
  pub sources : entry_values part.sources.now ≡ source_entries m
  pub names : entry_values part.names.now ≡ name_entries m

-- the pieces in `before` were added, then `piece`, and no others. `with_piece before piece` is not an error
pub record GathersMore (before : List Piece) (piece : Piece) (g : Gathering) : Type 0 where
  pub gathered : Gathers (before ++ piece ∷ []) g
  pub due : with_piece before piece ≡ Ok (before ++ piece ∷ [])

-- `e` is `OutOfMemory`, or there is a text `reason` such that `due` is `Err reason` and `e` is `CannotFlatten` with
-- this text
abbrev pub RefusesFor : Result (List Piece) (List ℕ) → Error → Type 0
RefusesFor due e = UnlessMemory e ((reason : List ℕ) × (due ≡ Err reason) × GivesReason reason e)

abbrev pub RefusesPiece : List Piece → Piece → Error → Type 0
RefusesPiece before piece e = RefusesFor (with_piece before piece) e

-- there are at most 4294967295 sources and at most 4294967295 names, so each has an id
pub record HasFewTexts (flat : FlatMap) : Type 0 where
  pub sources : vec_len flat.sources ≤ 4294967295
  pub names : vec_len flat.names ≤ 4294967295

-- `flat` is the concatenation of `pieces`, with borrowed texts. It has no file name
pub record IsFlat (pieces : List Piece) (flat : FlatMap) : Type 0 where
  pub few : HasFewTexts flat
  pub tokens : flat.tokens ≡ in_order (all_moved_tokens pieces)
  pub ignored : flat.ignored.keys ≡ all_ignored_ids pieces
  pub sources : entry_values flat.sources.items ≡ entries_kept (all_source_entries pieces)
  pub names : entry_values flat.names.items ≡ entries_kept (all_name_entries pieces)
