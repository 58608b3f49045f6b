-- prover: explicit search
use Rattle.std.proofs.Common.{rules}
use Rattle.sourcemap_map_regular.proofs.map.SourceMap.get_source_root.Goals as goal

pub returns : goal.returns
returns c = search rules
