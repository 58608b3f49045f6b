use Rattle.sourcemap_tokens.proofs.TokensLemmas.{closest_item-reduced}
use Rattle.sourcemap_tokens.proofs.tokens.reduced_answers_alike.Goals as goal

pub returns : goal.returns
returns c = closest_item-reduced c.args.names c.args.tokens.now (c.args.line, c.args.col)
