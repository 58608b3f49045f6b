use Rattle.std.proofs.Common.{rules}
use Rattle.sourcemap_cli.proofs.CommandLemmas.{no_trace, trace_asked}
use Rattle.sourcemap_cli.proofs.command.trace_command.Goals as goal

pub returns-then-eq : goal.returns-then-eq
returns-then-eq c = no_trace c.args.file.now c.args.counting (search rules)

pub returns : goal.returns
returns c = trace_asked c.args.file.now c.args.counting c.in_ok-path.path (search rules) (search rules)
