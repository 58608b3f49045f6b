use Rattle.std.proofs.Common.{rules}
use Rattle.sourcemap_interning.specs.Slots.{hash_of}
use Rattle.sourcemap_interning.proofs.slots.hash_of.Goals as goal

pub returns : goal.returns
unfolding hash_of
returns c = search rules
