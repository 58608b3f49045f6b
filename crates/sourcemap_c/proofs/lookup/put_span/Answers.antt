use Rattle.std.proofs.Common.{◌≡◌, sym, ap, subst, ◌∙◌, ℕ}
use Rattle.sourcemap_map_regular.specs.Token.{token_value}
use Rattle.sourcemap_c.specs.Lookup.{StaysClosest, start_after}
use Rattle.sourcemap_c.proofs.LookupLemmas.{closest-found, stays}
use Rattle.sourcemap_c.proofs.lookup.put_span.Goals as goal

pub returns-in-Some-clause-stays : goal.returns-in-Some-clause-stays
returns-in-Some-clause-stays c = λ _.
    let p : ℕ × ℕ = (c.args.line, c.args.column) in
    let token = token_value c.in-Some.token in
    let until = c.start_after.ensures ∙ ap (λ tokens. start_after tokens c.get_index.result) c.lists.ensures.lists.tokens ∙ ap (start_after c.args.map.now.tokens) c.get_index.ensures.value in
    subst (StaysClosest c.args.map.now.tokens p) (sym until)
    (stays c.args.map.now.tokens p (token.index, token.raw) c.lists.ensures.in_order (closest-found c.args.map.now p token c.in-Some.ensures.value))
