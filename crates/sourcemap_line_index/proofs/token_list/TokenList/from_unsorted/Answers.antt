use Rattle.sourcemap_tokens.proofs.TokensLemmas.{AreInOrder-in_order}
use Rattle.sourcemap_line_index.proofs.token_list.TokenList.from_unsorted.Goals as goal

pub of_sorted-requires : goal.of_sorted-requires
of_sorted-requires c = rw c.in_ok-sort_tokens.ensures.sorted (AreInOrder-in_order c.args.tokens.items)
