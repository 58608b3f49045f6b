use Rattle.std.proofs.Common.{◌≡◌}
use Rattle.sourcemap_bench.specs.ViewSums.{line_sum, rounds_sum}
use Rattle.sourcemap_bench.proofs.view_rounds.line_rounds.Given as goal

abbrev pub invariant-loop : goal.invariant-loop
invariant-loop l = l.sum ≡ rounds_sum (line_sum l.text) l.counter
