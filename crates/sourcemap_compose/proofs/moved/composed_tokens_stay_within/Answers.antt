use Rattle.sourcemap_compose.proofs.MovedLemmas.{composed_within}
use Rattle.sourcemap_compose.proofs.moved.composed_tokens_stay_within.Goals as goal

pub returns : goal.returns
returns c = composed_within
