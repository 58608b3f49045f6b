use Rattle.sourcemap_hermes.proofs.RewriteLemmas.{keeps-scopes}
use Rattle.sourcemap_hermes.proofs.rewrite.rewriting_keeps_scopes.Goals as goal

pub returns : goal.returns
returns c = keeps-scopes
