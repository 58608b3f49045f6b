use Rattle.std.proofs.Common.{refl}
use Rattle.sourcemap_interning.specs.Slots.{start_of}
use Rattle.sourcemap_interning.proofs.slots.start_of.Goals as goal

pub returns-clause-start : goal.returns-clause-start
unfolding start_of
returns-clause-start c = refl
