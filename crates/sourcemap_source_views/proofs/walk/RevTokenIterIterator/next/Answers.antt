-- prover: wrong bodies refused fast
use Rattle.std.proofs.Common.{rules}
use Rattle.sourcemap_source_views.proofs.walk.RevTokenIterIterator.next.Goals as goal

pub returns-in_err-token-clause-steps : goal.returns-in_err-token-clause-steps
returns-in_err-token-clause-steps g c = search rules

pub returns-in_err-token-clause-goes : goal.returns-in_err-token-clause-goes
returns-in_err-token-clause-goes g c = search rules

pub returns-clause-steps : goal.returns-clause-steps
returns-clause-steps g c = search rules

pub returns-clause-goes : goal.returns-clause-goes
returns-clause-goes g c = search rules
