-- prover: explicit search
use Rattle.std.proofs.Common.{rules}
use Rattle.sourcemap_errors.proofs.errors.ErrorFromStrUtf8Error.from.Goals as goal

pub returns : goal.returns
returns c = search rules
