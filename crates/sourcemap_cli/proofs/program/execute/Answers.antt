-- Only `compose` and `trace` use the file.
use Rattle.sourcemap.specs.AnyMap.{map_tree}
use Rattle.sourcemap_cli.specs.Program.{file_read}
use Rattle.sourcemap_cli.proofs.ProgramLemmas.{of_maps, returns_without_file}
use Rattle.sourcemap_cli.proofs.program.execute.Goals as goal

pub returns-in-Compose : goal.returns-in-Compose
returns-in-Compose g c = λ ordered. rw c.in-Compose.is (c.compose.ensures c.in-Compose.field-0)

pub returns-in-Trace : goal.returns-in-Trace
returns-in-Trace g c = λ ordered. rw c.in-Trace.is (c.trace.ensures ordered)

pub apply-requires-clause-of_maps : goal.apply-requires-clause-of_maps
apply-requires-clause-of_maps g c = of_maps c.args.command.now c.in_default.not-Trace

pub returns-in_default : goal.returns-in_default
returns-in_default g c = λ ordered.
    returns_without_file (file_read c.args.file) c.args.command.now (map_tree c.args.map) c.apply.result
    c.in_default.not-Compose c.in_default.not-Trace c.apply.ensures
