-- `maps` has one item for each of the first `entry-index` entries, in the same order. The item is the function map that
-- the entry encodes, or `None` if the entry encodes no function map.
use Rattle.std.proofs.Common.{map, take}
use Rattle.std.specs.List.{AllZip}
use Rattle.sourcemap_hermes_scopes.specs.ScopeLists.{EntryStandsFor, entry_in}
use Rattle.sourcemap_hermes_scopes.proofs.scope_lists.function_maps_of.Given as goal

abbrev pub invariant-loop-entry : goal.invariant-loop-entry
invariant-loop-entry l = AllZip EntryStandsFor (map entry_in (take l.entry-index l.entries)) l.maps.items
