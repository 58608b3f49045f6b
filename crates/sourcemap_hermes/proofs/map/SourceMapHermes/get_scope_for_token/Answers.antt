-- prover: explicit search
use Rattle.std.proofs.Common.{rules}
use Rattle.sourcemap_hermes.proofs.map.SourceMapHermes.get_scope_for_token.Goals as goal

pub returns : goal.returns
returns c = search rules
