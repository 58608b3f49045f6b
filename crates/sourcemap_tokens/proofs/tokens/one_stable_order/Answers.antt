use Rattle.sourcemap_tokens.proofs.TokensLemmas.{stably_in_order}
use Rattle.sourcemap_tokens.proofs.tokens.one_stable_order.Goals as goal

pub returns : goal.returns
returns c = stably_in_order c.args.tokens.now c.args.sorted.now
