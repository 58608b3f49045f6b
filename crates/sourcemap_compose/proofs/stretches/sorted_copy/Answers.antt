use Rattle.std.proofs.Common.{ap, Ok, arith}
use Rattle.sourcemap_tokens.proofs.SortLemmas.{sorted_by-sorted}
use Rattle.sourcemap_tokens.proofs.TokensLemmas.{position_cmp_total}
use Rattle.sourcemap_compose.specs.Stretches.{position_by}
use Rattle.sourcemap_compose.proofs.stretches.sorted_copy.Goals as goal

pub returns-then-next_descent-tokens : goal.returns-then-next_descent-tokens
returns-then-next_descent-tokens c =
    ap Ok (sorted_by-sorted (position_by c.args.side) position_cmp_total c.args.tokens.now
    (λ k d l m. c.next_descent.ensures.in_order k d (omega arith) (omega arith)))
