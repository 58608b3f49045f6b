use Rattle.sourcemap_index_model.proofs.WellFormedLemmas.{decoded_in_order, decoded_well}
use Rattle.sourcemap_index_model.proofs.laws.decoded_maps_are_well_formed.Goals as goal

pub returns-clause-well_formed : goal.returns-clause-well_formed
returns-clause-well_formed c = decoded_well

pub returns-clause-tokens : goal.returns-clause-tokens
returns-clause-tokens c = decoded_in_order
