use Rattle.sourcemap_source_views.proofs.ColumnsLemmas.{reached-there, reached-short}
use Rattle.sourcemap_source_views.proofs.columns.reach_or_end.Goals as goal

pub returns-in-Some-clause-value : goal.returns-in-Some-clause-value
returns-in-Some-clause-value c =
    reached-there c.args.line.now c.args.col _ _ c.utf8.line c.in-Some.ensures.value c.in-Some.ensures.units

pub returns-in-None-clause-value : goal.returns-in-None-clause-value
returns-in-None-clause-value c =
    reached-short c.args.line.now c.args.col _ _ c.in-None.ensures.value c.units_in.ensures.value
