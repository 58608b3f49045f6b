use Rattle.std.proofs.Common.{rules}
use Rattle.sourcemap_interning.specs.Overflow.{sip_hash_of}
use Rattle.sourcemap_interning.proofs.overflow.sip_hash_of.Goals as goal

pub returns : goal.returns
unfolding sip_hash_of
returns c = search rules
