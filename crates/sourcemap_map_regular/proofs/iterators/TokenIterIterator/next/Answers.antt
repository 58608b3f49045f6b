use Rattle.std.proofs.Common.{length, refl, sym, ap, rules}
use Rattle.sourcemap_map_regular.specs.Token.{token_value}
use Rattle.sourcemap_map_regular.proofs.MapLemmas.{tokens_from-step, tokens_from-none}
use Rattle.sourcemap_map_regular.proofs.iterators.TokenIterIterator.next.Goals as goal

pub returns-in-None-clause-steps : goal.returns-in-None-clause-steps
returns-in-None-clause-steps c =
    let none = tokens_from-none c.args.self.now.map.now c.args.self.now.next (sym c.in-None.ensures) in
    ((none, none), refl)

pub returns-in-Some-clause-steps : goal.returns-in-Some-clause-steps
returns-in-Some-clause-steps c = (
  tokens_from-step c.args.self.now.map.now c.args.self.now.next (token_value c.in-Some.token) c.in-Some.ensures,
  refl,
)

pub returns-in-Some-clause-goes : goal.returns-in-Some-clause-goes
returns-in-Some-clause-goes c =
    let steps = ap length (tokens_from-step c.args.self.now.map.now c.args.self.now.next
    (token_value c.in-Some.token) c.in-Some.ensures) in
    search rules
