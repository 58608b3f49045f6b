use Rattle.sourcemap_index_model.proofs.FlatLemmas.{flat_says}
use Rattle.sourcemap_index_model.proofs.laws.flat_maps_say_the_flat_list.Goals as goal

pub returns : goal.returns
returns c = flat_says
