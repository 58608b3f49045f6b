-- prover: explicit search
use Rattle.std.proofs.Common.{rules}
use Rattle.sourcemap_errors.proofs.errors.ErrorFromAllocError.from.Goals as goal

pub returns : goal.returns
returns c = search rules
