-- An index map flattened section by section.
use Rattle.std.specs.Prelude.{◌≡◌, ℕ, List, Option, Some, None, IfSome, Result, Ok, Err}
use Rattle.sourcemap_errors.specs.declared.errors.Error.{Error}
use Rattle.sourcemap_records.specs.Jsontypes.{SectionHead}
use Rattle.sourcemap_map_regular.specs.Map.{MapValue, meaning as meaning_regular}
use Rattle.sourcemap_map_regular.specs.Rewrite.{MeansLess, Removal, Rewrites, without_removed, TokensMeanLess}
use Rattle.sourcemap_index_model.specs.Decode.{Then}
use Rattle.sourcemap_index_model.specs.MapTree.{MapTree, MapSection, offset_of}
use Rattle.sourcemap_index_model.specs.Meaning.{meaning}
use Rattle.sourcemap_index_model.specs.Flat.{FlatAnswer, Piece, SaysFlat, flat, on_ok, with_piece, unresolved}
use Rattle.sourcemap_index_model.specs.WellFormed.{HasTokensInOrder}
use Rattle.sourcemap_index_flatten.specs.Gathering.{Gathers, IsFlat}
use Rattle.sourcemap_index_flatten.specs.declared.gathering.Gathering.{Gathering}
use Rattle.sourcemap_index_flatten.specs.declared.gathering.FlatMap.{FlatMap}
use Rattle.sourcemap_map_rewrite.specs.declared.options.RewriteOptions.{RewriteOptions}

-- `before` with one more piece at its end: the flat map of `t` at `offset`. If `t` cannot be flattened, the error of
-- `flat`. Otherwise, if the piece cannot be added, the error of `with_piece`
abbrev pub map_added : List Piece → ℕ × ℕ → MapTree → Result (List Piece) (List ℕ)
map_added before offset t = on_ok (flat t) (λ m. with_piece before (offset, m))

-- the result of `map_added` for a section's map and offset. If the section has no map, the error is `unresolved`
abbrev pub section_map_added : List Piece → SectionHead → Option MapTree → Result (List Piece) (List ℕ)
section_map_added before head None = Err (unresolved head.url)
section_map_added before head (Some t) = map_added before (offset_of head) t

abbrev pub section_added : List Piece → MapSection → Result (List Piece) (List ℕ)
section_added before s = section_map_added before s.head s.map

-- `due` is a list of pieces, not an error. Exactly these pieces were added to `g`, in this order
abbrev pub Gathered : Result (List Piece) (List ℕ) → Gathering → Type 0
Gathered due g = (pieces : List Piece) × (due ≡ Ok pieces) × Gathers pieces g

-- `due` is a list of pieces, not an error. `flat` is the concatenation of these pieces
abbrev pub IsFlatOf : Result (List Piece) (List ℕ) → FlatMap → Type 0
IsFlatOf due flat = (pieces : List Piece) × (due ≡ Ok pieces) × IsFlat pieces flat

-- the tokens of the section's map are sorted by generated position; true if the section has no map. In an index map,
-- the tokens of each regular map and each Hermes map are sorted, at every level
abbrev pub IsSectionInOrder : MapSection → Type 0
IsSectionInOrder s = IfSome s.map HasTokensInOrder

-- An index map flattened, and then rewritten.

-- the error of flattening, or the result of rewriting the flat map
abbrev pub RewriteAnswer : RewriteOptions → MapTree → Result MapValue Error → Type 0
RewriteAnswer options t answer = Then (FlatAnswer t) (λ m a. Rewrites options m a) answer

-- `t` can be flattened to a map `whole`. The generated positions and meanings of the tokens of `whole` are the list
-- `flat_list t`, sorted stably by position. `m` has as many tokens as `whole`. The n-th token of `m` has the generated
-- position of the n-th token of `whole`. The meaning of the n-th token of `m` is the meaning of the n-th token of
-- `whole` with two changes (`without_removed`). First, the source loses the first prefix in `cuts removal whole` that
-- matches the source (`without_prefix`). Second, the name is removed if names are not kept
abbrev pub SaysFlatLess : Removal → MapTree → MapValue → Type 0
SaysFlatLess removal t m = (whole : MapValue) × (flat t ≡ Ok whole) × SaysFlat t whole × TokensMeanLess removal whole m

-- `t` can be flattened. At every position, `m` means the same as the flat map, except for the parts that
-- `without_removed` removes
abbrev pub MeansFlatLess : Removal → MapTree → MapValue → Type 0
MeansFlatLess removal t m = (whole : MapValue) × (flat t ≡ Ok whole) × MeansLess removal whole m

-- `t` can be flattened to a map `whole`. If a position has a meaning in `t`, the position has this meaning in `m`, with
-- two changes (`without_removed`). First, the source loses the first prefix in `cuts removal whole` that matches the
-- source (`without_prefix`). Second, the name is removed if names are not kept
abbrev pub AnswersLess : Removal → MapTree → MapValue → Type 0
AnswersLess removal t m =
    (whole : MapValue) × (flat t ≡ Ok whole)
    × ((p : ℕ × ℕ) → IfSome (meaning t p) (λ says. meaning_regular m p ≡ Some (without_removed removal whole says)))
