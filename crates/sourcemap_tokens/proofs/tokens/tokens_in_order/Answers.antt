use Rattle.std.proofs.Common.{◌≡◌, sym, ap, ◌∙◌, ◌+◌, ◌-◌, arith, true, false}
use Rattle.std.proofs.lemmas.List.{get_or_default}
use Rattle.sourcemap_tokens.specs.Tokens.{destination}
use Rattle.sourcemap_tokens.proofs.TokensLemmas.{order_fails, order_goes_on}
use Rattle.sourcemap_tokens.proofs.tokens.tokens_in_order.Goals as goal

pub returns-then-is_before : goal.returns-then-is_before
returns-then-is_before c = (
  λ no. let impossible : false ≡ true = no in cc,
  λ up. absurd (order_fails c.args.tokens.now c.loop-token.token-index (
    c.loop-token.line,
    c.loop-token.col,
  ) c.loop-token.invariant.last _ (omega arith) c.loop-token.invariant.start
      (sym c.is_before.ensures ∙ c.if-is_before.true) up),
)

pub loop-token-preserved : goal.loop-token-preserved
loop-token-preserved c = record {
  start = λ e. absurd (omega arith);
  last = λ d l.
      let back : c.loop-token.token-index + 1 - 1 ≡ c.loop-token.token-index = omega arith in
      rw back (ap destination (get_or_default c.args.tokens.now c.loop-token.token-index d _ (omega arith)));
  so_far = order_goes_on c.args.tokens.now c.loop-token.token-index (
    c.loop-token.line,
    c.loop-token.col,
  ) c.loop-token.invariant.last _ (omega arith)
      (sym c.is_before.ensures ∙ c.if-is_before.false) c.loop-token.invariant.so_far;
}
