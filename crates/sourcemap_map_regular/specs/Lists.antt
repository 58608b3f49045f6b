-- The borrowed lists of a map.
use Rattle.std.specs.Prelude.{◌≡◌, map, string_bytes}
use Rattle.sourcemap_map_regular.specs.Map.{MapValue, resolved_sources}
use Rattle.sourcemap_map_regular.specs.declared.lists.MapLists.{MapLists}

-- the lists are those of the map, with the sources resolved against `sourceRoot`
pub record AreListsOf (m : MapValue) (lists : MapLists) : Type 0 where
  pub tokens : lists.tokens.now ≡ m.tokens
  pub names : map string_bytes lists.names.now ≡ m.names
  pub sources : map string_bytes lists.sources.now ≡ resolved_sources m
  pub contents : lists.contents.now ≡ m.contents
  pub ignored : lists.ignored.now.keys ≡ m.ignored
