use Rattle.sourcemap_cli.proofs.ProgramLemmas.{replies_alike}
use Rattle.sourcemap_cli.proofs.program.replies_are_determined.Goals as goal

pub returns : goal.returns
returns c = replies_alike
