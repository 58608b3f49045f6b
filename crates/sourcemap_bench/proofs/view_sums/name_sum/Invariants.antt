use Rattle.std.proofs.Common.{◌≡◌, take}
use Rattle.sourcemap_bench.specs.ViewSums.{name_sum}
use Rattle.sourcemap_bench.proofs.view_sums.name_sum.Given as goal

abbrev pub invariant-loop-position : goal.invariant-loop-position
invariant-loop-position l =
    l.sum ≡ name_sum l.map l.view (take l.position-index l.positions) l.start
