use Rattle.sourcemap_index_model.proofs.EncodeLemmas.{tree_answer}
use Rattle.sourcemap_index_model.proofs.laws.written_records_read_back.Goals as goal

pub returns : goal.returns
returns c = tree_answer
