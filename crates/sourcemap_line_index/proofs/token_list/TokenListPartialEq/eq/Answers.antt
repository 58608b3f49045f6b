use Rattle.sourcemap_line_index.proofs.TokenListLemmas.{tokens_decide}
use Rattle.sourcemap_line_index.proofs.token_list.TokenListPartialEq.eq.Goals as goal

pub returns-clause-same : goal.returns-clause-same
returns-clause-same c =
    rw c.same_items.ensures (rw (c.self.view_is, c.other.view_is) (tokens_decide c.args.self.now c.args.other.now))
