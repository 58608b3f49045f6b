-- prover: explicit search
use Rattle.std.proofs.Common.{rules}
use Rattle.sourcemap_map_regular.proofs.map.distance.Goals as goal

pub returns-then-token-line : goal.returns-then-token-line
returns-then-token-line c = search rules

pub returns-else-token : goal.returns-else-token
returns-else-token c = search rules
