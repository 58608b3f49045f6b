use Rattle.std.proofs.Common.{◌≡◌}
use Rattle.sourcemap.specs.Iterators.{tokens_left}
use Rattle.sourcemap_bench.specs.Sums.{token_sum, with_all}
use Rattle.sourcemap_bench.proofs.sums.token_sum.Given as goal

abbrev pub invariant-loop-token : goal.invariant-loop-token
invariant-loop-token l = with_all l.sum (tokens_left l.token-iterator) ≡ token_sum l.map l.start
