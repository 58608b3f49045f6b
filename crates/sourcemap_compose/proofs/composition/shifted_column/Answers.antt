-- prover: wrong bodies refused fast
use Rattle.std.proofs.Common.{rules}
use Rattle.sourcemap_compose.proofs.composition.shifted_column.Goals as goal

pub returns-then-not-token : goal.returns-then-not-token
returns-then-not-token c = search rules

pub returns-then-token-eq-NO_ID : goal.returns-then-token-eq-NO_ID
returns-then-token-eq-NO_ID c = search rules

pub returns : goal.returns
returns c = search rules
