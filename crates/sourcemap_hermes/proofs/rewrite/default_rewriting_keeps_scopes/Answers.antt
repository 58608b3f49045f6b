use Rattle.sourcemap_hermes.proofs.RewriteTwice.{hermes-twice}
use Rattle.sourcemap_hermes.proofs.rewrite.default_rewriting_keeps_scopes.Goals as goal

pub returns : goal.returns
returns c = hermes-twice
