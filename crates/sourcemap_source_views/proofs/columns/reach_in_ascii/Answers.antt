use Rattle.sourcemap_source_views.proofs.ColumnsLemmas.{ascii-offset, ascii-short}
use Rattle.sourcemap_source_views.proofs.columns.reach_in_ascii.Goals as goal

pub returns-then-col-line-clause-value : goal.returns-then-col-line-clause-value
returns-then-col-line-clause-value c = ascii-short c.args.line.now c.args.col c.utf8.line c.if-col-line.true c.requires

pub returns-clause-value : goal.returns-clause-value
returns-clause-value c = (ascii-offset c.args.line.now c.args.col c.utf8.line c.if-col-line.false c.requires).offset

pub returns-clause-boundary : goal.returns-clause-boundary
returns-clause-boundary c =
    (ascii-offset c.args.line.now c.args.col c.utf8.line c.if-col-line.false c.requires).boundary

pub returns-clause-units : goal.returns-clause-units
returns-clause-units c = (ascii-offset c.args.line.now c.args.col c.utf8.line c.if-col-line.false c.requires).units
