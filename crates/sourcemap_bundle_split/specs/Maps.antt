-- The flat map of a bundle, with tables that number its source ids and its name ids.
use Rattle.std.specs.Prelude.{◌≡◌, length}
use Rattle.sourcemap_bundle_split.specs.declared.module_maps.ModuleMaps.TheInside.{Inside}

-- the tables are as long as the lists of sources and names
pub record HasTables (a : Inside) : Type 0 where
  pub sources : a.sources.count ≡ length a.flat.sources
  pub names : a.names.count ≡ length a.flat.names
