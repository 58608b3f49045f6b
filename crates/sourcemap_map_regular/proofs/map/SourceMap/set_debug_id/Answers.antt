-- prover: explicit search
use Rattle.std.proofs.Common.{rules}
use Rattle.sourcemap_map_regular.proofs.map.SourceMap.set_debug_id.Goals as goal

pub returns : goal.returns
returns c = search rules
