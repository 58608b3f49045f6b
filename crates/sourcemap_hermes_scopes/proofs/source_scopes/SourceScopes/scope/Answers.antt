-- prover: explicit search
use Rattle.std.proofs.Common.{rules}
use Rattle.sourcemap_hermes_scopes.proofs.source_scopes.SourceScopes.scope.Goals as goal

pub returns-in_err-index : goal.returns-in_err-index
returns-in_err-index c = search rules

pub returns : goal.returns
returns c = search rules
