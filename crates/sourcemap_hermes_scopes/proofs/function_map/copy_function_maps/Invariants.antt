-- What is copied so far.
use Rattle.std.proofs.Common.{◌≡◌, take}
use Rattle.sourcemap_hermes_scopes.proofs.function_map.copy_function_maps.Given as goal

abbrev pub invariant-loop-map : goal.invariant-loop-map
invariant-loop-map l = l.copies.items ≡ take l.map-index l.maps
