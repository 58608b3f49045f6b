use Rattle.std.proofs.Common.{◌≡◌, sym, ap, subst, slice_get, None, Some, length, rules, [], ◌∷◌, ◌+◌}
use Rattle.sourcemap_source_views.specs.Lines.{line_bodies}
use Rattle.sourcemap_source_views.specs.Views.{lines_left}
use Rattle.sourcemap_source_views.proofs.ViewsLemmas.{drop-next, drop-none, drop-past, number_there, number_past}
use Rattle.sourcemap_source_views.proofs.sourceview.LinesIterator.next.Goals as goal

pub returns-in_err-line-clause-steps : goal.returns-in_err-line-clause-steps
returns-in_err-line-clause-steps c =
    let none : lines_left c.args.self.now ≡ [] = drop-past (line_bodies c.args.self.now.view.now) 4294967296
    c.args.self.now.next (number_past c.try_from.result _ c.try_from.ensures c.in_err-line.ensures.value) in
    rw c.from_residual.ensures (none, none)

pub returns-in_err-text-clause-steps : goal.returns-in_err-text-clause-steps
returns-in_err-text-clause-steps c =
    let line = number_there c.try_from.result _ _ c.try_from.ensures c.in_ok-line.ensures.value in
    let missing =
    subst (λ n. None ≡ slice_get (line_bodies c.args.self.now.view.now) n) (sym line.1) c.in_err-text.ensures in
    let none : lines_left c.args.self.now ≡ [] =
    drop-none (line_bodies c.args.self.now.view.now) 4294967296 c.args.self.now.next missing in
    rw c.from_residual-in_err-text.ensures (none, none)

step : (c : goal.After-text-2-1) → lines_left c.args.self.now ≡ c.in_ok-text.text.now ∷ lines_left (record {
  view = c.args.self.now.view;
  next = c.args.self.now.next + 1;
})
step c =
    let line = number_there c.try_from.result _ _ c.try_from.ensures c.in_ok-line.ensures.value in
    let there = subst (λ n. Some c.in_ok-text.text.now
    ≡ slice_get (line_bodies c.args.self.now.view.now) n) (sym line.1) c.in_ok-text.ensures in
    drop-next (line_bodies c.args.self.now.view.now) 4294967296 c.args.self.now.next c.in_ok-text.text.now line.0 there

pub returns-clause-steps : goal.returns-clause-steps
returns-clause-steps c = step c

pub returns-clause-goes : goal.returns-clause-goes
returns-clause-goes c = let steps = ap length (step c) in search rules
