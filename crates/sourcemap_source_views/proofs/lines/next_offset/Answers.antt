use Rattle.sourcemap_source_views.proofs.LinesLemmas.{end_found, none_found}
use Rattle.sourcemap_source_views.proofs.lines.next_offset.Goals as goal

pub returns-in-Some-clause-quiet : goal.returns-in-Some-clause-quiet
returns-in-Some-clause-quiet c = (end_found c.args.bytes.now c.args.from c.in-Some.gap c.in-Some.ensures).1

pub returns-in-None-clause-quiet : goal.returns-in-None-clause-quiet
returns-in-None-clause-quiet c = none_found c.args.bytes.now c.args.from c.in-None.ensures
