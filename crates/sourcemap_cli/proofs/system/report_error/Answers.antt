-- prover: explicit search
use Rattle.std.proofs.Common.{rules}
use Rattle.sourcemap_cli.proofs.system.report_error.Goals as goal

pub returns-then-is_reader_gone-clause-printed : goal.returns-then-is_reader_gone-clause-printed
returns-then-is_reader_gone-clause-printed g c = search rules

pub returns-then-is_reader_gone-clause-quiet : goal.returns-then-is_reader_gone-clause-quiet
returns-then-is_reader_gone-clause-quiet g c = search rules

pub returns-then-is_reader_gone-clause-error : goal.returns-then-is_reader_gone-clause-error
returns-then-is_reader_gone-clause-error g c = search rules

pub returns-clause-quiet : goal.returns-clause-quiet
returns-clause-quiet g c = search rules

pub returns-clause-error : goal.returns-clause-error
returns-clause-error g c = search rules
