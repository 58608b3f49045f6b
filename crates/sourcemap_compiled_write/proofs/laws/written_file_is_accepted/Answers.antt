use Rattle.sourcemap_compiled_write.proofs.ReadBack.{accepted}
use Rattle.sourcemap_compiled_write.proofs.laws.written_file_is_accepted.Goals as goal

pub returns : goal.returns
returns c = accepted
