-- A step adds the scope of one token: its name, if it is new, and its number.
use Rattle.std.proofs.Common.{◌≡◌, ◌∙◌, ◌∷◌, ap, arith, length, refl, suc}
use Rattle.std.specs.Option.{option_copied}
use Rattle.sourcemap_hermes.specs.Map.{hermes_value}
use Rattle.sourcemap_map_regular.specs.Iterators.{tokens_left}
use Rattle.sourcemap_map_regular.specs.Token.{token_value, tokens_from}
use Rattle.sourcemap_cache.specs.Scopes.{with_scope}
use Rattle.sourcemap_cache.proofs.ScopesLemmas.{length-tokens_from, length-with_scope, names_step, numbers_step}
use Rattle.sourcemap_cache.proofs.scopes.scopes_of.Goals as goal

pub loop-token-init : goal.loop-token-init
loop-token-init c =
    let h = hermes_value c.args.map.now in
    let rest : tokens_left c.into_iter-token-iterator.result ≡ tokens_from h.map 0 = cc in
    let names = c.in_ok-names.ensures.ok in
    let numbers = c.in_ok-numbers.ensures.items in
    let none = ap length names in
    let empty = c.in_ok-numbers.ensures.len in
    let many : length (tokens_left c.into_iter-token-iterator.result) ≡ length h.map.tokens =
    ap length rest ∙ length-tokens_from h.map in
    record {
      names = λ order. rw (names, rest) refl;
      numbers = λ order. rw (numbers, rest) refl;
      count = omega (arith, empty, many);
      few = omega (arith, none);
    }

pub loop-token-preserved : goal.loop-token-preserved
loop-token-preserved c =
    let h = hermes_value c.args.map.now in
    let before = c.loop-token.invariant in
    let old = c.loop-token.names in
    let new = c.number_of.new.names in
    let left = tokens_left c.loop-token.token-iterator in
    let rest = tokens_left c.next.new.self in
    let token = token_value c.in-Some.token in
    let scope = option_copied c.get_scope_for_token.result in
    let first : left ≡ token ∷ rest = c.in-Some.ensures.steps.0 in
    let number = c.in_ok-number.ensures.number in
    let added : new ≡ with_scope old scope = c.in_ok-number.ensures.names in
    let pushed = c.in_ok-push.ensures.items in
    let shorter : length left ≡ suc (length rest) = ap length first in
    let longer = c.in_ok-push.ensures.len in
    let more : length new ≡ length (with_scope old scope) = ap length added in
    let one = length-with_scope old scope in
    record {
      names = λ order. names_step h old new left rest token scope first (c.get_scope_for_token.ensures (order _)) added
          (before.names order);
      numbers = λ order. numbers_step h old new left rest token scope first (c.get_scope_for_token.ensures (order _))
          added (before.names order) c.loop-token.numbers.items c.push.new.self.items c.in_ok-number.number pushed number
          (before.numbers order);
      count = omega (arith, shorter, longer, before.count);
      few = omega (arith, longer, more, one, before.few);
    }
