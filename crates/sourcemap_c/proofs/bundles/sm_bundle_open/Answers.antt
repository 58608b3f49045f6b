use Rattle.sourcemap_c.proofs.CodesLemmas.{coded}
use Rattle.sourcemap_c.proofs.bundles.sm_bundle_open.Goals as goal

pub returns : goal.returns
returns c = coded c.open.result c.finish.ensures.report c.open.ensures
