use Rattle.sourcemap_source_views.proofs.ColumnsLemmas.{reached-there, reached-end}
use Rattle.sourcemap_source_views.proofs.columns.reach_from.Goals as goal

pub returns-then-col-from-clause-value : goal.returns-then-col-from-clause-value
returns-then-col-from-clause-value c =
    reached-there c.args.line.now c.args.col _ _ c.utf8.line c.reach_back.ensures.value c.reach_back.ensures.offset.1

pub returns-then-from-line-clause-value : goal.returns-then-from-line-clause-value
returns-then-from-line-clause-value c =
    reached-end c.args.line.now c.args.col _ _ c.utf8.line c.requires c.if-from-line.true c.if-col-from.false
