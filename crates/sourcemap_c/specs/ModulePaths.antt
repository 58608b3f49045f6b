-- The paths of the modules of an index map.
use Rattle.std.specs.Prelude.{ℕ, Option, Some, None, length, option_map}
use Rattle.sourcemap_index_model.specs.MapTree.{MapTree, index}

-- how many paths there are; `Some None` if the index map has no list of paths; `None` if there is no index map
abbrev pub path_count_in : Option MapTree → Option (Option ℕ)
path_count_in (Some (index parts _)) = Some (option_map length parts.x_metro_module_paths)
path_count_in _ = None
