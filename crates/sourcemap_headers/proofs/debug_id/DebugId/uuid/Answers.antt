-- prover: explicit search
use Rattle.std.proofs.Common.{rules}
use Rattle.sourcemap_headers.proofs.debug_id.DebugId.uuid.Goals as goal

pub returns-clause-value : goal.returns-clause-value
returns-clause-value c = search rules
