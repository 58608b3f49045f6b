use Rattle.sourcemap_index_model.proofs.FlatLemmas.{flat_well}
use Rattle.sourcemap_index_model.proofs.laws.flat_maps_are_well_formed.Goals as goal

pub returns : goal.returns
returns c = flat_well
