use Rattle.sourcemap_index_model.proofs.EncodeLemmas.{tree_written_once}
use Rattle.sourcemap_index_model.proofs.laws.maps_are_written_once.Goals as goal

pub returns : goal.returns
returns c = tree_written_once
