use Rattle.sourcemap_cli.proofs.CommandLemmas.{command_once}
use Rattle.sourcemap_cli.proofs.command.words_are_determined.Goals as goal

pub returns : goal.returns
returns c = command_once
