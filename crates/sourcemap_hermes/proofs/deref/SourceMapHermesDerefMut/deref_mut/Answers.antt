-- prover: explicit search
use Rattle.std.proofs.Common.{rules}
use Rattle.sourcemap_hermes.proofs.deref.SourceMapHermesDerefMut.deref_mut.Goals as goal

pub returns : goal.returns
returns c = search rules
