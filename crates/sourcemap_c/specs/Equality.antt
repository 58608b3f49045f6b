-- Equality of the maps of two handles.
use Rattle.std.specs.Prelude.{Bool, Option, Some, None}
use Rattle.sourcemap_index_model.specs.Equality.{same_tree}
use Rattle.sourcemap_index_model.specs.MapTree.{MapTree}

-- whether the maps of two handles are equal; `None` if a handle holds no map
abbrev pub are_same : Option MapTree → Option MapTree → Option (Option Bool)
are_same (Some a) (Some b) = Some (Some (same_tree a b))
are_same _ _ = None
