use Rattle.std.proofs.Common.{◌≡◌, ◌-◌, ◌≤◌, ◌∙◌, ap, arith, drop, option_map, subst, Some, None}
use Rattle.sourcemap_source_views.specs.Columns.{IsOffset, column_offset}
use Rattle.sourcemap_source_views.specs.declared.columns.LineOffset.{LineOffset}
use Rattle.sourcemap_source_views.proofs.ColumnsLemmas.{offset-few}
use Rattle.sourcemap_check_texts.proofs.SpotLemmas.{found-further, offset-sum}
use Rattle.sourcemap_check_texts.proofs.spots.find_near.Goals as goal

pub returns-in_err-ahead-clause-value : goal.returns-in_err-ahead-clause-value
returns-in_err-ahead-clause-value c =
    let line = c.args.line.now in
    let from = c.args.from in
    let behind : from.units ≤ c.args.column = omega arith in
    ap (option_map (λ (at : LineOffset). at.offset)) c.from_residual.ensures
    ∙ found-further line c.args.column from.offset from.units None c.utf8.line c.requires behind
    (subst (λ t. None ≡ column_offset t (c.args.column - from.units)) c.range_from.ensures.value
    c.in_err-ahead.ensures.value)

pub overflow_add-result-2 : goal.overflow_add-result-2
overflow_add-result-2 c =
    let line = c.args.line.now in
    let from = c.args.from in
    let at : IsOffset (drop from.offset line) c.in_ok-ahead.ahead.offset c.in_ok-ahead.ahead.units =
    subst (λ t. IsOffset t c.in_ok-ahead.ahead.offset c.in_ok-ahead.ahead.units) c.range_from.ensures.value
    (c.in_ok-ahead.ensures.boundary, c.in_ok-ahead.ensures.units) in
    let whole = offset-sum line from.offset from.units c.in_ok-ahead.ahead.offset c.in_ok-ahead.ahead.units c.utf8.line
    c.requires at in
    let few = offset-few line _ _ c.utf8.line whole in
    let fits = whole.0.0 in
    omega arith

pub returns-clause-value : goal.returns-clause-value
returns-clause-value c =
    let line = c.args.line.now in
    let from = c.args.from in
    let behind : from.units ≤ c.args.column = omega arith in
    found-further line c.args.column from.offset from.units (Some c.in_ok-ahead.ahead.offset) c.utf8.line c.requires behind
    (subst (λ t. Some c.in_ok-ahead.ahead.offset ≡ column_offset t (c.args.column - from.units))
    c.range_from.ensures.value c.in_ok-ahead.ensures.value)

pub returns-clause-offset : goal.returns-clause-offset
returns-clause-offset c =
    let from = c.args.from in
    offset-sum c.args.line.now from.offset from.units c.in_ok-ahead.ahead.offset c.in_ok-ahead.ahead.units c.utf8.line
    c.requires (subst (λ t. IsOffset t c.in_ok-ahead.ahead.offset c.in_ok-ahead.ahead.units) c.range_from.ensures.value
    (c.in_ok-ahead.ensures.boundary, c.in_ok-ahead.ensures.units))
