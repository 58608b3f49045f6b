use Rattle.sourcemap_tokens.proofs.TokensLemmas.{closest-stays}
use Rattle.sourcemap_tokens.proofs.tokens.closest_tokens_stay.Goals as goal

pub returns : goal.returns
returns c = closest-stays
