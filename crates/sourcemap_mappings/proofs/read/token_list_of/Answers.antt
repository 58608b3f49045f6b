use Rattle.std.proofs.Common.{sym, ◌∙◌}
use Rattle.sourcemap_tokens.proofs.TokensLemmas.{in_order-ordered}
use Rattle.sourcemap_mappings.proofs.ReadAnswers.{given_same}
use Rattle.sourcemap_mappings.proofs.read.token_list_of.Goals as goal

pub returns-then-read-clause-sorted : goal.returns-then-read-clause-sorted
returns-then-read-clause-sorted c =
    given_same c.with_table.result _ _ c.with_table.ensures
    (c.shrink_small.ensures ∙ sym (in_order-ordered c.args.read.tokens.items (c.requires c.if-read.true).0))
