-- The maps in a map, at any depth: itself, then those in its sections, one section after another. The number of a map is
-- its index in this list.
use Rattle.std.specs.Prelude.{ℕ, suc, ◌+◌, List, [], ◌∷◌, ◌++◌, is_some, if◌then◌else◌}
use Rattle.serde_json.specs.Data.{Data}
use Rattle.serde_json.specs.Find.{as_object}
use Rattle.sourcemap_check.specs.declared.tree.MapPlace.{MapPlace}
use Rattle.sourcemap_check.specs.Trees.{Tree, tree, Sections, no_sections, bare, mapped, tree_of}

-- a map in a map. `path` are the indexes of the sections that lead to it, the outermost first. `place` has the last of
-- them, and the number of the map that has this section
pub record MapIn : Type 0 where
  pub place : MapPlace
  pub path : List ℕ
  pub map : Tree

-- how many maps a map has, with itself
abbrev mutual
  pub map_count : Tree → ℕ
  map_count (tree m sections) = suc (section_count sections)

  pub section_count : Sections → ℕ
  section_count no_sections = 0
  section_count (bare s later) = section_count later
  section_count (mapped s inner later) = map_count inner + section_count later

-- the maps in the map with this number and path; in its sections from this index on, where `next` is the number of the
-- next map
abbrev mutual
  pub maps_in : (own : ℕ) → MapPlace → (path : List ℕ) → Tree → List MapIn
  maps_in own place path (tree m sections) =
      record { place = place; path = path; map = tree m sections } ∷ maps_below own path 0 (own + 1) sections

  pub maps_below : (own : ℕ) → (path : List ℕ) → (index next : ℕ) → Sections → List MapIn
  maps_below own path index next no_sections = []
  maps_below own path index next (bare s later) = maps_below own path (index + 1) next later
  maps_below own path index next (mapped s inner later) =
      maps_in next (record { map = own; section = index }) (path ++ index ∷ []) inner
      ++ maps_below own path (index + 1) (next + map_count inner) later

-- the maps in a JSON value. The whole has number 0; its place is 0, 0
abbrev pub maps_of : Data → List MapIn
maps_of d = if is_some (as_object d) then maps_in 0 (record { map = 0; section = 0 }) [] (tree_of d) else []
