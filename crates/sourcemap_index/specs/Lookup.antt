-- The sections in a list, and the tokens that a lookup may find.
use Rattle.std.specs.Prelude.{◌≡◌, ◌⊎◌, ℕ, List, Some, slice_get}
use Rattle.sourcemap_map_regular.specs.Token.{TokenValue, lookup as lookup_regular}
use Rattle.sourcemap_index_model.specs.MapTree.{MapTree, leaf, index, held, MapSections, no_sections, hollow, filled, MapSection}

-- the section is in the list
abbrev pub IsAmong : List MapSection → MapSection → Type 0
IsAmong ss s = (k : ℕ) × (slice_get ss k ≡ Some s)

-- the map is the map of a section in the list
abbrev pub IsInner : List MapSection → MapTree → Type 0
IsInner ss t = (s : MapSection) × IsAmong ss s × (s.map ≡ Some t)

-- a regular map has the token if `lookup_regular` returns the token for some generated position. A Hermes map has the
-- token if its regular map has it. An index map has the token if the map of one of its sections has it
abbrev mutual
  pub HasToken : MapTree → TokenValue → Type 0
  HasToken (leaf l) token = (p : ℕ × ℕ) × (lookup_regular (held l) p ≡ Some token)
  HasToken (index parts ss) token = AnyHasToken ss token

  pub AnyHasToken : MapSections → TokenValue → Type 0
  AnyHasToken no_sections token = ⊥
  AnyHasToken (hollow head rest) token = AnyHasToken rest token
  AnyHasToken (filled head t rest) token = HasToken t token ⊎ AnyHasToken rest token
