-- `source_scopes_in` converts the fields of `SourceScopes` to a `SourceScopesValue`. `AreStored` is the invariant of
-- the fields.
use Rattle.sourcemap_hermes_scopes.specs.ScopeLists.{entries_in}
use Rattle.sourcemap_hermes_scopes.specs.SourceScopes.{SourceScopesValue, AreFewScopes, AreOfEntries}
use Rattle.sourcemap_hermes_scopes.specs.declared.source_scopes.SourceScopes.TheInside.{Inside}

abbrev pub source_scopes_in : Inside → SourceScopesValue
source_scopes_in a = record { entries = entries_in a.entries; function_maps = a.function_maps.items }

-- there are at most 4294967295 entries, and the entry of each source encodes the function map of the same source
pub record AreStored (a : Inside) : Type 0 where
  pub few : AreFewScopes (entries_in a.entries)
  pub of_entries : AreOfEntries (source_scopes_in a)
