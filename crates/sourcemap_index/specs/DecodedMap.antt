-- The debug id of a map of any kind. The JSON values and the texts that a map is written as. How deep index maps are
-- nested, and the maps whose JSON has at most 127 levels.
use Rattle.std.specs.Prelude.{◌≡◌, ◌≤◌, ℕ, suc, max, List, Option}
use Rattle.serde_json.specs.Data.{Data, depth}
use Rattle.serde_json.specs.Read.{max_depth}
use Rattle.serde_json.specs.Written.{compact_text}
use Rattle.sourcemap_records.specs.Jsontypes.{Tree, written}
use Rattle.sourcemap_index_model.specs.Encode.{IsRecordOf}
use Rattle.sourcemap_index_model.specs.MapTree.{LeafMap, regular, hermes, held, MapTree, leaf, index, MapSections, no_sections, hollow, filled}

abbrev pub debug_id_of : MapTree → Option (List ℕ)
debug_id_of (leaf l) = (held l).debug_id
debug_id_of (index parts ss) = parts.debug_id

abbrev pub leaf_with_debug_id : LeafMap → Option (List ℕ) → LeafMap
leaf_with_debug_id (regular m) id = regular (record m { debug_id = id })
leaf_with_debug_id (hermes h) id = hermes (record h { map = record h.map { debug_id = id } })

abbrev pub with_debug_id : MapTree → Option (List ℕ) → MapTree
with_debug_id (leaf l) id = leaf (leaf_with_debug_id l id)
with_debug_id (index parts ss) id = index (record parts { debug_id = id }) ss

-- a value that a map is written as
abbrev pub IsValueOf : MapTree → Data → Type 0
IsValueOf t d = (r : Tree) × IsRecordOf t r × (d ≡ written r)

-- `text` is the compact text of a JSON value of the map (`IsValueOf`)
abbrev pub IsTextOf : MapTree → List ℕ → Type 0
IsTextOf t text = (d : Data) × IsValueOf t d × (text ≡ compact_text d)

-- how deep index maps are nested: 0 for a regular map or a Hermes map, 1 for an index map that contains no other index
-- map. The JSON of a map has more levels than this number
abbrev mutual
  pub levels : MapTree → ℕ
  levels (leaf l) = 0
  levels (index parts ss) = suc (deepest ss)

  pub deepest : MapSections → ℕ
  deepest no_sections = 0
  deepest (hollow head rest) = deepest rest
  deepest (filled head t rest) = max (levels t) (deepest rest)

-- the map is written as JSON of at most 127 levels. A regular map takes two levels, a Hermes map up to five. An index
-- map takes three levels more than the deepest map in its sections. An index map without maps in its sections takes at
-- most four
abbrev pub IsShallow : MapTree → Type 0
IsShallow t = (d : Data) → IsValueOf t d → depth d ≤ max_depth
