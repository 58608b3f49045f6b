-- The ids of an ignore list.
use Rattle.std.specs.Prelude.{ℕ, List, [], Option, filter}
use Rattle.std.specs.Option.{option_and_then, option_map_or}
use Rattle.std.specs.Ordering.{is_le, nat_cmp}
use Rattle.sourcemap_index_model.specs.MapTree.{MapTree}
use Rattle.sourcemap_c.specs.Getters.{leaf_in}

-- the ids that are not below `from`
abbrev pub ids_from : ℕ → List ℕ → List ℕ
ids_from from ids = filter (λ id. is_le (nat_cmp from id)) ids

-- the same of the ignore list of a map; no ids of an index map, nor without a map
abbrev pub ignored_from : ℕ → Option MapTree → List ℕ
ignored_from from t = option_map_or (λ m. ids_from from m.ignored) (option_and_then leaf_in t) []
