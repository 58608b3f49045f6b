use Rattle.std.proofs.Common.{◌≤◌, ◌+◌, length, refl, sym, ap, subst, ◌∙◌, Some, None}
use Rattle.std.proofs.lemmas.Bool.{ltb-true, ltb-false}
use Rattle.std.proofs.lemmas.Option.{slice_get_read, slice_get_past}
use Rattle.sourcemap_compose.specs.Stretches.{earlier, line_end, position_by, stretches}
use Rattle.sourcemap_compose.proofs.StretchesLemmas.{length-stretches, stretch-is}
use Rattle.sourcemap_compose.proofs.stretches.stretch_at.Goals as goal

pub returns-in_err-token : goal.returns-in_err-token
returns-in_err-token c =
    let position = position_by c.args.side in
    let tokens = c.args.tokens.now in
    let past : length tokens ≤ c.args.index =
    ltb-false c.args.index (length tokens) (sym c.in_err-token.ensures.lookup.0) in
    c.from_residual.ensures ∙ sym (slice_get_past (stretches position tokens) c.args.index
    (subst (λ n. n ≤ c.args.index) (sym (length-stretches position tokens)) past))

pub returns-in-Some : goal.returns-in-Some
returns-in-Some c =
    let tokens = c.args.tokens.now in
    let token = c.in_ok-token.field-0.now in
    let here = c.in_ok-token.ensures.lookup in
    let found = c.in-Some.ensures.lookup in
    sym (stretch-is (position_by c.args.side) tokens c.args.index token
    (Some c.in-Some.next.now) c.position_by-start.result c.earlier-end.result
    (slice_get_read tokens (length tokens) c.args.index token refl
    (ltb-true c.args.index (length tokens) (sym here.0)) here.1)
    (slice_get_read tokens (length tokens) (c.args.index + 1) c.in-Some.next.now refl
    (ltb-true (c.args.index + 1) (length tokens) (sym found.0)) found.1)
    c.position_by-start.ensures
    (c.earlier-end.ensures ∙ λ i. earlier (c.position_by.ensures i) (line_end (c.position_by-start.ensures i))))

pub returns-in-None : goal.returns-in-None
returns-in-None c =
    let tokens = c.args.tokens.now in
    let token = c.in_ok-token.field-0.now in
    let here = c.in_ok-token.ensures.lookup in
    sym (stretch-is (position_by c.args.side) tokens c.args.index token None c.position_by-start.result (
      c.position_by-start.result.0,
      4294967295,
    )
    (slice_get_read tokens (length tokens) c.args.index token refl
    (ltb-true c.args.index (length tokens) (sym here.0)) here.1)
    (slice_get_past tokens (c.args.index + 1)
    (ltb-false (c.args.index + 1) (length tokens) (sym c.in-None.ensures.lookup.0)))
    c.position_by-start.ensures (ap line_end c.position_by-start.ensures))
