use Rattle.std.proofs.Common.{rules}
use Rattle.sourcemap_cli.proofs.CommandLemmas.{no_compile}
use Rattle.sourcemap_cli.proofs.command.compile_command.Goals as goal

pub returns-then-ne : goal.returns-then-ne
returns-then-ne c = no_compile c.args.word.now (search rules)
