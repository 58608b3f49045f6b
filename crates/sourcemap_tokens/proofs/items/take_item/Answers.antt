-- prover: explicit search
use Rattle.std.proofs.Common.{rules}
use Rattle.sourcemap_tokens.proofs.items.take_item.Goals as goal

pub returns-then-id-len-clause-left : goal.returns-then-id-len-clause-left
returns-then-id-len-clause-left g c = search rules
