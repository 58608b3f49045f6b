use Rattle.sourcemap_index.proofs.WriteLemmas.{text_compact}
use Rattle.sourcemap_index.proofs.laws.encoded_texts_are_compact.Goals as goal

pub returns : goal.returns
returns c = text_compact
