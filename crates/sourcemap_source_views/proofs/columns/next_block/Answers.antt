use Rattle.std.proofs.Common.{◌∙◌, ap, arith, chars}
use Rattle.sourcemap_source_views.specs.Columns.{width}
use Rattle.sourcemap_source_views.proofs.ColumnsLemmas.{offset-few, offset-ahead}
use Rattle.sourcemap_source_views.proofs.columns.next_block.Goals as goal

pub overflow_add-units : goal.overflow_add-units
overflow_add-units c =
    let few = offset-few c.args.line.now c.args.at.offset c.args.at.units c.utf8.line c.requires in
    let more = c.units_in.ensures.few in
    let len = c.range.ensures.len in
    let fits = c.in_ok-end.ensures.boundary.0 in
    omega (arith, few, more, len, fits)

pub returns-clause-offset : goal.returns-clause-offset
returns-clause-offset c =
    let ahead = c.in_ok-end.ensures.ahead in
    offset-ahead c.args.line.now c.args.at.offset c.args.at.units
    c.in_ok-end.end c.units_in.result c.utf8.line c.requires c.in_ok-end.ensures.boundary (omega (arith, ahead))
    (c.units_in.ensures.value ∙ ap (λ t. width (chars t)) c.range.ensures.value)
