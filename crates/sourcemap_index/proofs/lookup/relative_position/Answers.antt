-- prover: explicit search
use Rattle.std.proofs.Common.{rules}
use Rattle.sourcemap_index.proofs.lookup.relative_position.Goals as goal

pub returns : goal.returns
returns c = search rules
