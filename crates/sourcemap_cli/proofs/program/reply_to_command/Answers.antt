-- A command is applied to the map that the bytes decode to, or it is not.
use Rattle.std.proofs.Common.{sym}
use Rattle.sourcemap_cli.specs.Program.{file_read}
use Rattle.sourcemap_cli.proofs.ProgramLemmas.{reply_of_map}
use Rattle.sourcemap_cli.proofs.program.reply_to_command.Goals as goal

pub returns : goal.returns
returns g c =
    reply_of_map c.args.command.now c.args.bytes.items (file_read c.args.file) c.execute_on_bytes-answer.result
    c.into_reply.result (sym (rw c.as_slice.ensures.value at c.if-not-is_applied.ensures))
    c.execute_on_bytes-answer.ensures c.into_reply.ensures
