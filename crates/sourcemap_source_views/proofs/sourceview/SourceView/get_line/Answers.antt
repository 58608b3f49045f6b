use Rattle.std.proofs.Common.{◌∙◌, sym, ap, Some, option_map, slice_get}
use Rattle.sourcemap_source_views.specs.Lines.{line_ranges, line_bodies, lines_of}
use Rattle.sourcemap_source_views.proofs.LinesLemmas.{IsInText, line-in_text, line-missing}
use Rattle.sourcemap_source_views.proofs.sourceview.SourceView.get_line.Goals as goal

pub returns-in_err-start : goal.returns-in_err-start
returns-in_err-start c =
    let lines_is = c.self.invariant ∙ ap line_ranges c.self.view_is in
    ap (option_map (λ text. text.now)) c.from_residual.ensures
    ∙ sym (line-missing c.args.self.now c.args.line
    (ap (λ ranges. slice_get ranges c.args.line) (sym lines_is) ∙ sym c.in_err-start.ensures))

in_text : (c : goal.After-source)
    → IsInText c.source.result.now (lines_of c.source.result.now) c.args.line (c.in_ok-start.start, c.in_ok-start.end)
in_text c =
    let lines_is = c.self.invariant ∙ ap line_ranges (c.self.view_is ∙ sym c.source.ensures) in
    line-in_text c.source.result.now c.args.line (c.in_ok-start.start, c.in_ok-start.end) c.source.utf8
    (ap (λ ranges. slice_get ranges c.args.line) (sym lines_is) ∙ sym c.in_ok-start.ensures)

pub range-requires-2-clause-start_le_end : goal.range-requires-2-clause-start_le_end
range-requires-2-clause-start_le_end c = (in_text c).ordered

pub range-requires-2-clause-start_boundary : goal.range-requires-2-clause-start_boundary
range-requires-2-clause-start_boundary c = λ _. (in_text c).start

pub range-requires-2-clause-end_boundary : goal.range-requires-2-clause-end_boundary
range-requires-2-clause-end_boundary c = (in_text c).end

pub returns : goal.returns
returns c =
    let lines_is = c.self.invariant ∙ ap line_ranges (c.self.view_is ∙ sym c.source.ensures) in
    let here = line-in_text c.source.result.now c.args.line (c.in_ok-start.start, c.in_ok-start.end) c.source.utf8
    (ap (λ ranges. slice_get ranges c.args.line) (sym lines_is) ∙ sym c.in_ok-start.ensures) in
    ap Some c.range-2.ensures.value ∙ sym here.body
    ∙ ap (λ text. slice_get (line_bodies text) c.args.line) c.source.ensures
