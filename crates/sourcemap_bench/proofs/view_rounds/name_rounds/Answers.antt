use Rattle.std.proofs.Common.{◌∙◌, ap, add-one}
use Rattle.sourcemap_bench.specs.ViewSums.{name_sum}
use Rattle.sourcemap_bench.proofs.view_rounds.name_rounds.Goals as goal

pub loop-preserved : goal.loop-preserved
loop-preserved c =
    rw add-one
    (c.name_sum-sum.ensures ∙ ap (name_sum c.args.map.now c.args.view.now c.args.starts.now) c.loop.invariant)
