use Rattle.sourcemap_c.proofs.CodesLemmas.{coded}
use Rattle.sourcemap_c.proofs.bundles.sm_split_map.Goals as goal

pub returns-clause-map : goal.returns-clause-map
returns-clause-map c = coded c.split_map.result c.finish.ensures.report c.split_map.ensures.map
