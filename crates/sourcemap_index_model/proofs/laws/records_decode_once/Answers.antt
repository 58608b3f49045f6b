use Rattle.sourcemap_index_model.proofs.DecodeLemmas.{tree_decodes_once}
use Rattle.sourcemap_index_model.proofs.laws.records_decode_once.Goals as goal

pub returns : goal.returns
returns c = tree_decodes_once
