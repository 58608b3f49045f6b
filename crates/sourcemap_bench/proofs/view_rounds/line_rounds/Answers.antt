use Rattle.std.proofs.Common.{◌∙◌, ap, add-one}
use Rattle.sourcemap_bench.specs.ViewSums.{line_sum}
use Rattle.sourcemap_bench.proofs.view_rounds.line_rounds.Goals as goal

pub loop-preserved : goal.loop-preserved
loop-preserved c = rw add-one (c.in_ok-sum.ensures ∙ ap (line_sum c.args.text.now) c.loop.invariant)
