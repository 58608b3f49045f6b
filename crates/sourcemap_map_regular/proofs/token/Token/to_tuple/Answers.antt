-- prover: explicit search
use Rattle.std.proofs.Common.{rules}
use Rattle.sourcemap_map_regular.proofs.token.Token.to_tuple.Goals as goal

pub returns-clause-source : goal.returns-clause-source
returns-clause-source c = search rules

pub returns-clause-line : goal.returns-clause-line
returns-clause-line c = search rules

pub returns-clause-column : goal.returns-clause-column
returns-clause-column c = search rules

pub returns-clause-name : goal.returns-clause-name
returns-clause-name c = search rules
