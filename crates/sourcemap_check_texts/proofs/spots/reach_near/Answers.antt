use Rattle.std.proofs.Common.{◌≡◌, ◌-◌, ◌≤◌, arith, drop, subst}
use Rattle.sourcemap_source_views.specs.Columns.{IsOffset, column_offset, reached_offset}
use Rattle.sourcemap_source_views.proofs.ColumnsLemmas.{reached-there, offset-few}
use Rattle.sourcemap_check_texts.proofs.SpotLemmas.{reached-further, offset-sum}
use Rattle.sourcemap_check_texts.proofs.spots.reach_near.Goals as goal

pub returns-then-column-from-clause-value : goal.returns-then-column-from-clause-value
returns-then-column-from-clause-value c =
    reached-there c.args.line.now c.args.column _ _ c.utf8.line c.reach_back.ensures.value c.reach_back.ensures.offset.1

pub overflow_add-result-2 : goal.overflow_add-result-2
overflow_add-result-2 c =
    let line = c.args.line.now in
    let from = c.args.from in
    let at : IsOffset (drop from.offset line) c.reach_or_end-ahead.result.offset c.reach_or_end-ahead.result.units =
    subst (λ t. IsOffset t c.reach_or_end-ahead.result.offset c.reach_or_end-ahead.result.units)
    c.range_from.ensures.value c.reach_or_end-ahead.ensures.offset in
    let whole = offset-sum line from.offset from.units c.reach_or_end-ahead.result.offset
    c.reach_or_end-ahead.result.units c.utf8.line c.requires at in
    let few = offset-few line _ _ c.utf8.line whole in
    let fits = whole.0.0 in
    omega arith

pub returns-clause-value : goal.returns-clause-value
returns-clause-value c =
    let line = c.args.line.now in
    let from = c.args.from in
    let behind : from.units ≤ c.args.column = omega arith in
    reached-further line c.args.column from.offset from.units c.reach_or_end-ahead.result.offset
    c.reach_or_end-ahead.result.units c.utf8.line c.requires behind
    (subst (λ t. reached_offset (c.args.column - from.units) c.reach_or_end-ahead.result.offset
    c.reach_or_end-ahead.result.units ≡ column_offset t (c.args.column - from.units)) c.range_from.ensures.value
    c.reach_or_end-ahead.ensures.value)

pub returns-clause-offset : goal.returns-clause-offset
returns-clause-offset c =
    let from = c.args.from in
    offset-sum c.args.line.now from.offset from.units c.reach_or_end-ahead.result.offset
    c.reach_or_end-ahead.result.units c.utf8.line c.requires
    (subst (λ t. IsOffset t c.reach_or_end-ahead.result.offset c.reach_or_end-ahead.result.units)
    c.range_from.ensures.value c.reach_or_end-ahead.ensures.offset)
