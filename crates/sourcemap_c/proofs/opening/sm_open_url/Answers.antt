use Rattle.sourcemap_c.proofs.CodesLemmas.{coded}
use Rattle.sourcemap_c.proofs.opening.sm_open_url.Goals as goal

pub returns : goal.returns
returns c = coded c.open_url.result c.finish.ensures.report c.open_url.ensures
