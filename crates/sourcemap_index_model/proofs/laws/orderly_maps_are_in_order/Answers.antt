use Rattle.sourcemap_index_model.proofs.ApartLemmas.{orderly_in_order}
use Rattle.sourcemap_index_model.proofs.laws.orderly_maps_are_in_order.Goals as goal

pub returns : goal.returns
returns c = orderly_in_order
