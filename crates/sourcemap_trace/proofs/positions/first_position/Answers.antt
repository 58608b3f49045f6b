use Rattle.std.proofs.Common.{◌≡◌, ◌∙◌, ◌<◌, ap, length, option_map, subst, sym}
use Rattle.std.specs.List.{after_first, before_first}
use Rattle.sourcemap_trace.specs.Positions.{is_newline, number_of}
use Rattle.sourcemap_trace.proofs.PositionsLemmas.{both_named, fewer, later_lines, no_col, no_row}
use Rattle.sourcemap_trace.proofs.positions.first_position.Goals as goal

pub returns-in_err-row-clause-position : goal.returns-in_err-row-clause-position
returns-in_err-row-clause-position c =
    ap (option_map (λ found. found.0)) c.from_residual.ensures
    ∙ no_row c.args.first c.args.lines.now c.in_err-row.ensures.number

pub returns-in_err-col-clause-position : goal.returns-in_err-col-clause-position
returns-in_err-col-clause-position c =
    ap (option_map (λ found. found.0)) c.from_residual-in_err-col.ensures
    ∙ no_col c.args.first c.args.lines.now
    (c.in_err-col.ensures.number
    ∙ ap (λ bs. number_of c.args.first (before_first is_newline bs)) c.in_ok-row.ensures.after)

pub returns-clause-position : goal.returns-clause-position
returns-clause-position c =
    both_named c.args.first c.args.lines.now c.in_ok-row.row c.in_ok-col.col c.in_ok-row.ensures.number
    (c.in_ok-col.ensures.number
    ∙ ap (λ bs. number_of c.args.first (before_first is_newline bs)) c.in_ok-row.ensures.after)

pub returns-clause-later : goal.returns-clause-later
returns-clause-later c =
    c.in_ok-col.ensures.after ∙ ap (after_first is_newline) c.in_ok-row.ensures.after
    ∙ later_lines c.args.first c.args.lines.now c.in_ok-row.row c.in_ok-col.col c.in_ok-row.ensures.number
    (c.in_ok-col.ensures.number
    ∙ ap (λ bs. number_of c.args.first (before_first is_newline bs)) c.in_ok-row.ensures.after)

pub returns-clause-shorter : goal.returns-clause-shorter
returns-clause-shorter c =
    let col =
    c.in_ok-col.ensures.number
    ∙ ap (λ bs. number_of c.args.first (before_first is_newline bs)) c.in_ok-row.ensures.after in
    let same : c.in_ok-col.later.now ≡ after_first is_newline c.args.lines.now =
    c.in_ok-col.ensures.after ∙ ap (after_first is_newline) c.in_ok-row.ensures.after
    ∙ later_lines c.args.first c.args.lines.now c.in_ok-row.row c.in_ok-col.col c.in_ok-row.ensures.number col in
    subst (λ bs. length bs < length c.args.lines.now) (sym same)
    (fewer c.args.first c.args.lines.now c.in_ok-row.row c.in_ok-col.col c.in_ok-row.ensures.number col)
