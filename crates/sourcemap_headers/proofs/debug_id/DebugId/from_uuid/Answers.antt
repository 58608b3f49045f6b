-- prover: explicit search
use Rattle.std.proofs.Common.{rules}
use Rattle.sourcemap_headers.proofs.debug_id.DebugId.from_uuid.Goals as goal

pub returns : goal.returns
returns c = search rules
