-- prover: explicit search
use Rattle.std.proofs.Common.{rules}
use Rattle.sourcemap_map_regular.proofs.token_order.TokenOrd.cmp.Goals as goal

pub returns : goal.returns
returns c = search rules
