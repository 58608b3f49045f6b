-- prover: explicit search
use Rattle.std.proofs.Common.{rules}
use Rattle.sourcemap_errors.proofs.errors.ErrorFromIoError.from.Goals as goal

pub returns-then-eq : goal.returns-then-eq
returns-then-eq c = search rules

pub returns : goal.returns
returns c = search rules
