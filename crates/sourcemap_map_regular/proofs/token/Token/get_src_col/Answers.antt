-- prover: explicit search
use Rattle.std.proofs.Common.{rules}
use Rattle.sourcemap_map_regular.proofs.token.Token.get_src_col.Goals as goal

pub returns : goal.returns
returns c = search rules
