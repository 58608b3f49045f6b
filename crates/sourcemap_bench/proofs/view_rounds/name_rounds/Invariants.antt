use Rattle.std.proofs.Common.{◌≡◌}
use Rattle.sourcemap_bench.specs.ViewSums.{name_sum, rounds_sum}
use Rattle.sourcemap_bench.proofs.view_rounds.name_rounds.Given as goal

abbrev pub invariant-loop : goal.invariant-loop
invariant-loop l = l.sum ≡ rounds_sum (name_sum l.map l.view l.starts) l.counter
