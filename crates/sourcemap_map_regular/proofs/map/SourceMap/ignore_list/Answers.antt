-- prover: explicit search
use Rattle.std.proofs.Common.{rules}
use Rattle.sourcemap_map_regular.proofs.map.SourceMap.ignore_list.Goals as goal

pub returns-clause-rest : goal.returns-clause-rest
returns-clause-rest c = search rules

pub returns-clause-rising : goal.returns-clause-rising
returns-clause-rising c = search rules
