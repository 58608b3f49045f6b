-- prover: explicit search
use Rattle.std.proofs.Common.{rules}
use Rattle.sourcemap_mappings.proofs.write.is_repeat.Goals as goal

pub returns-then-token-before : goal.returns-then-token-before
returns-then-token-before c = search rules

pub returns-else-token-before : goal.returns-else-token-before
returns-else-token-before c = search rules

pub returns-in-None : goal.returns-in-None
returns-in-None c = search rules
