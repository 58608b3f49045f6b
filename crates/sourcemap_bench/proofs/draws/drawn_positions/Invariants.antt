use Rattle.std.proofs.Common.{◌≡◌, vec_len}
use Rattle.sourcemap_bench.proofs.draws.drawn_positions.Given as goal

abbrev pub invariant-loop : goal.invariant-loop
invariant-loop l = vec_len l.positions ≡ l.counter
