use Rattle.std.proofs.Common.{◌∙◌, sym, arith}
use Rattle.sourcemap_source_views.specs.Identifiers.{is_part}
use Rattle.sourcemap_source_views.proofs.IdentifiersLemmas.{passing-end, passing-none, Passed-step}
use Rattle.sourcemap_source_views.proofs.js_identifiers.parts_length.Goals as goal

pub returns-then-not-continues_identifier-clause-value : goal.returns-then-not-continues_identifier-clause-value
returns-then-not-continues_identifier-clause-value c =
    let stop = passing-end is_part _ _ _ c.loop-offset.invariant.utf8 c.in-Some.ensures.steps.1
    (sym c.continues_identifier.ensures ∙ c.if-not-continues_identifier.true) in
    let at = c.in-Some.ensures.steps.0 in
    let left = c.loop-offset.invariant.left in
    omega (arith, stop, at, left)

pub loop-offset-preserved : goal.loop-offset-preserved
loop-offset-preserved c =
    let step = c.in-Some.ensures.steps in
    Passed-step is_part c.args.text.now _ _ _ _ _ step.1 step.2
    (sym c.continues_identifier.ensures ∙ c.if-not-continues_identifier.false) c.loop-offset.invariant

pub returns-clause-value : goal.returns-clause-value
returns-clause-value c =
    let end = c.in-None.ensures.steps.0 in
    let none = passing-none is_part _ end in
    let left = c.loop-offset.invariant.left in
    let inside = c.loop-offset.invariant.inside in
    omega (arith, end, none, left, inside)
