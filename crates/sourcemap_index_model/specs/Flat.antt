-- The regular map that an index map is flattened to, or the error. The meaning of this regular map.
use Rattle.std.specs.Prelude.{◌≡◌, ℕ, Bool, ◌&&◌, ◌||◌, if◌then◌else◌, nat_lt, nat_eq, List, [], ◌∷◌, ◌++◌, length, map, filter, flat_map, codes, Option, Some, None, is_some, option_and_then, unwrap_or, IfSome, Result, Ok, Err, string_bytes}
use Rattle.std.specs.List.{enumerate_from, list_any}
use Rattle.std.specs.Str.{bytes_eq}
use Rattle.sourcemap_errors.specs.declared.errors.Error.{Error}
use Rattle.sourcemap_errors.specs.declared.errors.Error.TheVariants.{CannotFlatten}
use Rattle.sourcemap_tokens.specs.Search.{find_last}
use Rattle.sourcemap_tokens.specs.Tokens.{in_order, sorted_by, position_cmp, destination}
use Rattle.sourcemap_tokens.specs.declared.tokens.RawToken.{RawToken}
use Rattle.sourcemap_map_conversions.specs.FromRecord.{rising}
use Rattle.sourcemap_map_rewrite.specs.Kept.{kept_once, number_in}
use Rattle.sourcemap_map_regular.specs.Map.{MapValue, resolved_sources, source_of, name_of, contents_of, meaning as meaning_regular}
use Rattle.sourcemap_map_regular.specs.Rewrite.{token_meanings}
use Rattle.sourcemap_index_model.specs.MapTree.{MapTree, leaf, index, held, MapSections, no_sections, hollow, filled, offset_of}
use Rattle.sourcemap_index_model.specs.Meaning.{meaning}
use Rattle.sourcemap_index_model.specs.FlatList.{absolute_position, flat_list}

-- Concatenation of maps, each at its offset.

-- an offset, and the regular map that starts there
abbrev pub Piece : Type 0
Piece = (ℕ × ℕ) × MapValue

-- the sources of all pieces, resolved against `sourceRoot`, each once
abbrev pub sources_in : List Piece → List (List ℕ)
sources_in pieces = kept_once (flat_map (λ piece. resolved_sources piece.1) pieces)

-- the names of all pieces, each once
abbrev pub names_in : List Piece → List (List ℕ)
names_in pieces = kept_once (flat_map (λ piece. piece.1.names) pieces)

-- the resolved sources of a map, each with its contents if it has any
abbrev pub source_entries : MapValue → List (List ℕ × Option (List ℕ))
source_entries m = map (λ source. (source.1, contents_of m source.0)) (enumerate_from 0 (resolved_sources m))

-- the contents of the last source in the pieces that resolves to `text` and has contents. `None` if there is no such
-- source
abbrev pub contents_in : List Piece → List ℕ → Option (List ℕ)
contents_in pieces text =
    option_and_then (λ source. source.1)
    (find_last (λ source. bytes_eq source.0 text && is_some source.1)
    (flat_map (λ piece. source_entries piece.1) pieces))

-- the token `t` of `piece`, with the generated position, source id and name id of `t` in the concatenation
abbrev pub token_in : List Piece → Piece → RawToken → RawToken
token_in pieces piece t = record t {
  dst_line = (absolute_position piece.0 (destination t)).0;
  dst_col = (absolute_position piece.0 (destination t)).1;
  src_id = number_in (sources_in pieces) (source_of piece.1 t.src_id);
  name_id = number_in (names_in pieces) (name_of piece.1 t.name_id);
}

-- the new source ids of the tokens whose source id is on the ignore list of their map
abbrev pub ignored_in : List Piece → Piece → List ℕ
ignored_in pieces piece =
    map (λ t. (token_in pieces piece t).src_id)
    (filter (λ t. list_any (nat_eq t.src_id) piece.1.ignored) piece.1.tokens)

-- the concatenation of all pieces
abbrev pub merged : Option (List ℕ) → List Piece → MapValue
merged file pieces = record {
  file = file;
  root = None;
  tokens = in_order (flat_map (λ piece. map (token_in pieces piece) piece.1.tokens) pieces);
  names = names_in pieces;
  sources = sources_in pieces;
  contents = map (contents_in pieces) (sources_in pieces);
  ignored = rising (flat_map (ignored_in pieces) pieces);
  debug_id = None;
}

-- Errors.

abbrev pub unresolved : Option (List ℕ) → List ℕ
unresolved url = codes "Section has an unresolved sourcemap: " ++ unwrap_or url (codes "<unknown url>")

abbrev pub passes_the_end : ℕ × ℕ → Bool
passes_the_end p = nat_lt 4294967295 p.0 || nat_lt 4294967295 p.1

-- `pieces`, which is `before` with `piece` appended. An error if `pieces` has more than 4294967295 sources
-- (`sources_in`) or more than 4294967295 names (`names_in`). Otherwise, an error if the offset of `piece` moves a token
-- of `piece` past line 4294967295 or past column 4294967295
abbrev pub with_piece : List Piece → Piece → Result (List Piece) (List ℕ)
with_piece before piece =
    let pieces = before ++ piece ∷ [] in
    if nat_lt 4294967295 (length (sources_in pieces)) || nat_lt 4294967295 (length (names_in pieces)) then
    Err (codes "too many sources or names")
    else if list_any (λ t. passes_the_end (absolute_position piece.0 (destination t))) piece.1.tokens then
    Err (codes "a position passes 4294967295")
    else
    Ok pieces

-- applies the next step to a result, unless the result is an error
abbrev pub on_ok : {X Y E : Type 0} → Result X E → (X → Result Y E) → Result Y E
on_ok (Ok x) next = next x
on_ok (Err e) next = Err e

-- the flattened map, or the text of the first error. A map without sections flattens to its regular map (`held`). In an
-- index map, the map of each section is flattened and then added at the section's offset (`with_piece`), section by
-- section. A section without a map is an error (`unresolved`)
abbrev mutual
  pub flat : MapTree → Result MapValue (List ℕ)
  flat (leaf l) = Ok (held l)
  flat (index parts ss) = on_ok (pieces_after [] ss) (λ pieces. Ok (merged parts.file pieces))

  pub pieces_after : List Piece → MapSections → Result (List Piece) (List ℕ)
  pieces_after before no_sections = Ok before
  pieces_after before (hollow head rest) = Err (unresolved head.url)
  pieces_after before (filled head t rest) =
      on_ok (flat t) (λ m. on_ok (with_piece before (offset_of head, m)) (λ pieces. pieces_after pieces rest))

-- the result, other than `OutOfMemory`, of a call that flattens a map
abbrev pub FlatAnswer : MapTree → Result MapValue Error → Type 0
FlatAnswer t (Ok m) = flat t ≡ Ok m
FlatAnswer t (Err (CannotFlatten reason)) = flat t ≡ Err (string_bytes reason)
FlatAnswer t (Err _) = ⊥

-- Meaning of the flattened map.

-- the tokens of `m` have the positions and meanings in `flat_list t`, sorted stably by position
abbrev pub SaysFlat : MapTree → MapValue → Type 0
SaysFlat t m = token_meanings m ≡ sorted_by {K = ℕ × ℕ} (λ entry. entry.0) position_cmp (flat_list t)

-- each position with a meaning in `t` has the same meaning in `m`
abbrev pub AnswersLike : MapTree → MapValue → Type 0
AnswersLike t m = (p : ℕ × ℕ) → IfSome (meaning t p) (λ says. meaning_regular m p ≡ Some says)
