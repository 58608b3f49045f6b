use Rattle.std.proofs.Common.{◌≡◌}
use Rattle.sourcemap.specs.Views.{lines_left}
use Rattle.sourcemap_bench.specs.ViewSums.{line_sum, with_lengths}
use Rattle.sourcemap_bench.proofs.view_sums.line_sum.Given as goal

abbrev pub invariant-loop-line : goal.invariant-loop-line
invariant-loop-line l = with_lengths l.sum (lines_left l.line-iterator) ≡ line_sum l.view l.start
