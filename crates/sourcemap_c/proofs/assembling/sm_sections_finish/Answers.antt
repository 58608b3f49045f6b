use Rattle.sourcemap_c.proofs.AssemblingLemmas.{emptied, refused}
use Rattle.sourcemap_c.proofs.CodesLemmas.{coded}
use Rattle.sourcemap_c.proofs.assembling.sm_sections_finish.Goals as goal

pub returns-clause-made : goal.returns-clause-made
returns-clause-made c =
    coded c.finish_sections-outcome.result c.finish.ensures.report c.finish_sections-outcome.ensures.made

pub returns-clause-emptied : goal.returns-clause-emptied
returns-clause-emptied c =
    emptied c.finish_sections-outcome.result c.finish.result c.args.error.now c.finish.new.to _ _
    c.finish.ensures.report c.finish_sections-outcome.ensures.emptied

pub returns-clause-refused : goal.returns-clause-refused
returns-clause-refused c =
    refused c.finish_sections-outcome.result c.finish.result c.args.error.now c.finish.new.to _ _
    c.finish.ensures.report c.finish_sections-outcome.ensures.emptied
