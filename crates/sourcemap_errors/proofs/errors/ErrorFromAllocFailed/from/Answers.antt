-- prover: explicit search
use Rattle.std.proofs.Common.{rules}
use Rattle.sourcemap_errors.proofs.errors.ErrorFromAllocFailed.from.Goals as goal

pub returns : goal.returns
returns g c = search rules
