use Rattle.std.proofs.Common.{add-one}
use Rattle.sourcemap_bench.proofs.work.repeat_work.Goals as goal

pub loop-preserved : goal.loop-preserved
loop-preserved g c = rw add-one (c.loop.sum, c.loop.invariant, c.in_ok-sum.ensures)
