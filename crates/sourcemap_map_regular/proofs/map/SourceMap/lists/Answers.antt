-- prover: explicit search
use Rattle.std.proofs.Common.{rules}
use Rattle.sourcemap_map_regular.proofs.map.SourceMap.lists.Goals as goal

pub returns-clause-lists : goal.returns-clause-lists
returns-clause-lists c = search rules

pub returns-clause-in_order : goal.returns-clause-in_order
returns-clause-in_order c = search rules
