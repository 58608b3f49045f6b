use Rattle.sourcemap_c.proofs.CodesLemmas.{coded}
use Rattle.sourcemap_c.proofs.building.sm_builder_ignore_source.Goals as goal

pub returns : goal.returns
returns c = coded c.step_in.result c.finish.ensures.report c.step_in.ensures
