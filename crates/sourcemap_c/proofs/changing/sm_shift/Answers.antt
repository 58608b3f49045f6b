use Rattle.sourcemap_c.proofs.CodesLemmas.{coded}
use Rattle.sourcemap_c.proofs.changing.sm_shift.Goals as goal

pub returns : goal.returns
returns c = coded c.change_map.result c.finish.ensures.report c.change_map.ensures
