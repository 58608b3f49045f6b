use Rattle.std.proofs.Common.{◌≡◌, sym, ap, subst, ◌∙◌, rules}
use Rattle.std.proofs.lemmas.List.Sorted.{answers_always}
use Rattle.sourcemap_tokens.specs.Tokens.{destination, AreInOrder}
use Rattle.sourcemap_tokens.proofs.TokensLemmas.{stably_in_order, in_order-ordered}
use Rattle.sourcemap_tokens.proofs.tokens.sort_tokens.Goals as goal
use Rattle.sourcemap_tokens.proofs.tokens.sort_tokens.Goals.{then-not-tokens_in_order+in_ok-sort_by_key}
use Rattle.sourcemap_tokens.proofs.tokens.sort_tokens.Goals.{else-not-tokens_in_order}

pub returns-clause-sorted : goal.returns-clause-sorted
returns-clause-sorted c =
    elim c.if-not-tokens_in_order.branch [
      | then-not-tokens_in_order+in_ok-sort_by_key w ↦
          ap (λ tokens. tokens.items) w.tokens-is
          ∙ stably_in_order c.args.tokens.now.items w.sort_by_key.new.self.items
          (w.in_ok-sort_by_key.ensures.sorted destination
          (answers_always _ (λ a r. r ≡ destination a.0.now) _ (λ f a r f' k. search rules)))
          (w.sort_by_key.ensures.stable destination
          (answers_always _ (λ a r. r ≡ destination a.0.now) _ (λ f a r f' k. search rules)))
      | else-not-tokens_in_order w ↦
          ap (λ tokens. tokens.items) w.tokens-is
          ∙ sym (in_order-ordered c.args.tokens.now.items
          (subst AreInOrder c.as_slice.ensures.value (c.tokens_in_order.ensures.0 w.if-not-tokens_in_order.false)))
    ]
