-- prover: explicit search
use Rattle.std.proofs.Common.{rules}
use Rattle.sourcemap_map_regular.proofs.equality.same_maps.Goals as goal

pub returns : goal.returns
returns c = search rules
