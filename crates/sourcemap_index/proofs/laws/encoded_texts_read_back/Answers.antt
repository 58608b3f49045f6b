use Rattle.sourcemap_index.proofs.WriteLemmas.{text_back, url_back}
use Rattle.sourcemap_index.proofs.laws.encoded_texts_read_back.Goals as goal

pub returns : goal.returns
returns c = record { bytes = text_back; urls = url_back }
