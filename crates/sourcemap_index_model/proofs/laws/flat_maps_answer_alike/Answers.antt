use Rattle.sourcemap_index_model.proofs.FlatLemmas.{flat_answers}
use Rattle.sourcemap_index_model.proofs.laws.flat_maps_answer_alike.Goals as goal

pub returns : goal.returns
returns c = flat_answers
