use Rattle.sourcemap_c.proofs.CodesLemmas.{coded}
use Rattle.sourcemap_c.proofs.setters.sm_ignore_source.Goals as goal

pub returns : goal.returns
returns c = coded c.change_map.result c.finish.ensures.report c.change_map.ensures
