-- The regular maps and Hermes maps in an index map, at every level, as pieces of one concatenation.
use Rattle.std.specs.Prelude.{◌≡◌, ℕ, List, [], ◌∷◌, ◌++◌, map, false, Option, Some, None}
use Rattle.std.specs.List.{AllByRecursion, list_any}
use Rattle.sourcemap_tokens.specs.Tokens.{AreInOrder, destination}
use Rattle.sourcemap_index_model.specs.Flat.{Piece, passes_the_end}
use Rattle.sourcemap_index_model.specs.FlatList.{absolute_position}
use Rattle.sourcemap_index_model.specs.MapTree.{held, MapTree, leaf, index, MapSections, no_sections, hollow, filled, MapSection, offset_of, sections_from, AtEachLevel}
use Rattle.sourcemap_index_flatten.specs.Gathering.{Gathers, moved_piece}
use Rattle.sourcemap_index_flatten.specs.declared.gathering.Gathering.{Gathering}

-- the regular map of each regular map and each Hermes map, with the offset from the start of the whole map. A section
-- without a map adds no piece
abbrev mutual
  pub leaves : MapTree → List Piece
  leaves (leaf l) = ((0, 0), held l) ∷ []
  leaves (index parts ss) = leaves_in ss

  pub leaves_in : MapSections → List Piece
  leaves_in no_sections = []
  leaves_in (hollow head rest) = leaves_in rest
  leaves_in (filled head t rest) = map (moved_piece (offset_of head)) (leaves t) ++ leaves_in rest

-- each section has a map
abbrev pub AreFilled : MapSections → Type 0
AreFilled no_sections = Unit {0}
AreFilled (hollow head rest) = ⊥
AreFilled (filled head t rest) = AreFilled rest

-- at every level each section has a map, and the tokens of each regular map and each Hermes map are sorted
abbrev pub IsComplete : MapTree → Type 0
IsComplete t = AtEachLevel (λ l. AreInOrder (held l).tokens) AreFilled t

-- there is a map, and it is complete
abbrev pub HasComplete : Option MapTree → Type 0
HasComplete None = ⊥
HasComplete (Some t) = IsComplete t

-- the pieces of a section's map, from the start of the index map
abbrev pub section_leaves : MapSection → List Piece
section_leaves s = leaves_in (sections_from (s ∷ []))

-- no token of the piece passes line 4294967295 or column 4294967295
abbrev pub IsWithinEnd : Piece → Type 0
IsWithinEnd piece = list_any (λ t. passes_the_end (absolute_position piece.0 (destination t))) piece.1.tokens ≡ false

-- these pieces were added to `g` after those in `before`, each moved by `offset`. No token passes the end
pub record AreAdded (before : List Piece) (offset : ℕ × ℕ) (pieces : List Piece) (g : Gathering) : Type 0 where
  pub gathered : Gathers (before ++ map (moved_piece offset) pieces) g
  pub within : AllByRecursion IsWithinEnd (map (moved_piece offset) pieces)
