use Rattle.sourcemap_compiled_write.proofs.ReadBack.{meaning_back}
use Rattle.sourcemap_compiled_write.proofs.laws.written_file_means_its_parts.Goals as goal

pub returns : goal.returns
returns c = meaning_back
