use Rattle.sourcemap_bench.specs.Work.{RoundsGive}
use Rattle.sourcemap_bench.proofs.work.repeat_work.Given as goal

abbrev pub invariant-loop : goal.invariant-loop
invariant-loop g l = RoundsGive l.work l.counter l.sum
