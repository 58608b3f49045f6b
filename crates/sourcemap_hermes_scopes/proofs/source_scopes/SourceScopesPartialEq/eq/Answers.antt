-- The equality test of `SourceScopes` returns true if and only if both values are equal.
use Rattle.sourcemap_hermes_scopes.proofs.SourceScopesLemmas.{source_scopes_decide}
use Rattle.sourcemap_hermes_scopes.proofs.source_scopes.SourceScopesPartialEq.eq.Goals as goal

pub returns-clause-same : goal.returns-clause-same
returns-clause-same c = rw c.are_same.ensures (source_scopes_decide c.args.self.now c.args.other.now)
