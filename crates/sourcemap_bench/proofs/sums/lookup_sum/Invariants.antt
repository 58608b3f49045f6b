use Rattle.std.proofs.Common.{◌≡◌, take}
use Rattle.sourcemap.specs.AnyMap.{map_tree}
use Rattle.sourcemap.specs.Trees.{IsInOrder}
use Rattle.sourcemap_bench.specs.Sums.{lookup_sum}
use Rattle.sourcemap_bench.proofs.sums.lookup_sum.Given as goal

abbrev pub invariant-loop-position : goal.invariant-loop-position
invariant-loop-position l =
    IsInOrder (map_tree l.map) → l.sum ≡ lookup_sum (map_tree l.map) (take l.position-index l.positions) l.start
