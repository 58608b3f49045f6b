use Rattle.sourcemap_c.proofs.CodesLemmas.{coded}
use Rattle.sourcemap_c.proofs.bundles.answer_module.Goals as goal

pub returns : goal.returns
returns c = coded c.module.result c.finish.ensures.report c.module.ensures
