-- As `reply_to_command`, with the file that is read.
use Rattle.std.proofs.Common.{sym}
use Rattle.sourcemap_cli.specs.Program.{file_read}
use Rattle.sourcemap_cli.proofs.ProgramLemmas.{reply_of_read_map}
use Rattle.sourcemap_cli.proofs.program.reply_and_read_file.Goals as goal

pub returns-then-not-is_applied : goal.returns-then-not-is_applied
returns-then-not-is_applied g c =
    (file_read c.read_command_file-file.result, c.read_command_file-file.ensures, c.reply_without_map.ensures)

pub returns : goal.returns
returns g c =
    reply_of_read_map c.args.command.now c.args.bytes.items c.execute_and_read_file-answer.result c.into_reply.result
    (sym (rw c.as_slice.ensures.value at c.if-not-is_applied.ensures))
    c.execute_and_read_file-answer.ensures c.into_reply.ensures
