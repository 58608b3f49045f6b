use Rattle.sourcemap_interning.specs.Slots.{ArePassed}
use Rattle.sourcemap_interning.proofs.slots.NumberTable.probe.Given as goal

abbrev pub invariant-loop-step : goal.invariant-loop-step
invariant-loop-step g l = ArePassed l.self.slots.items l.hash l.start l.step
