-- prover: explicit search
use Rattle.std.proofs.Common.{rules}
use Rattle.sourcemap_map_regular.proofs.map.SourceMap.lookup_token_steps.Goals as goal

pub returns-clause-value : goal.returns-clause-value
returns-clause-value c = search rules

pub returns-clause-meaning : goal.returns-clause-meaning
returns-clause-meaning c = search rules

pub returns-clause-counted : goal.returns-clause-counted
returns-clause-counted c = search rules

pub returns-clause-positive : goal.returns-clause-positive
returns-clause-positive c = search rules
