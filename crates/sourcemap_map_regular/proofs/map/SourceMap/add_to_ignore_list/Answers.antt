-- prover: explicit search
use Rattle.std.proofs.Common.{rules}
use Rattle.sourcemap_map_regular.proofs.map.SourceMap.add_to_ignore_list.Goals as goal

pub returns : goal.returns
returns c = search rules
