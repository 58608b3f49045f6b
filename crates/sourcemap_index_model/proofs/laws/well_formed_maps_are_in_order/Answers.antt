use Rattle.sourcemap_index_model.proofs.WellFormedLemmas.{well_formed_in_order}
use Rattle.sourcemap_index_model.proofs.laws.well_formed_maps_are_in_order.Goals as goal

pub returns : goal.returns
returns c = well_formed_in_order
