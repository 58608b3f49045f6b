-- The regular map of a Hermes map.
use Rattle.std.specs.Prelude.{◌≡◌, Option, Some, None}
use Rattle.sourcemap_map_regular.specs.Map.{MapValue}
use Rattle.sourcemap_index_model.specs.MapTree.{MapTree, leaf, regular, hermes}

-- the regular map in a Hermes map; `None` for other maps
abbrev pub hermes_in : MapTree → Option MapValue
hermes_in (leaf (hermes h)) = Some h.map
hermes_in _ = None

-- a regular map as a `MapTree`, the type for maps of all kinds
abbrev pub regular_tree : MapValue → MapTree
regular_tree m = leaf (regular m)

-- the first argument is `Some m`, and the handle has the regular map `m`
abbrev pub HoldsRegular : Option MapValue → (held : Option MapTree) → Type 0
HoldsRegular None held = ⊥
HoldsRegular (Some m) held = held ≡ Some (regular_tree m)
