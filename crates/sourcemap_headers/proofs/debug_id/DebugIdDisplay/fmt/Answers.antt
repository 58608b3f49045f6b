-- prover: explicit search
use Rattle.std.proofs.Common.{rules}
use Rattle.sourcemap_headers.proofs.debug_id.DebugIdDisplay.fmt.Goals as goal

pub returns-clause-writes : goal.returns-clause-writes
returns-clause-writes c = search rules
