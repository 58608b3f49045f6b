use Rattle.sourcemap_compiled_write.proofs.ReadBack.{contents_back, debug_id_read, file_back, name_back}
use Rattle.sourcemap_compiled_write.proofs.ReadBack.{scope_text_back, source_back}
use Rattle.sourcemap_compiled_write.proofs.laws.written_texts_are_read.Goals as goal

pub returns : goal.returns
returns c = record {
  sources = source_back;
  names = name_back;
  scopes = scope_text_back;
  contents = contents_back;
  file = file_back;
  id = debug_id_read;
}
