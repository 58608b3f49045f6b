-- The report is beside the generated text, or the file has none.
use Rattle.std.proofs.Common.{sym}
use Rattle.sourcemap_cli.specs.Program.{file_read}
use Rattle.sourcemap_cli.proofs.ProgramLemmas.{reply_of_no_text}
use Rattle.sourcemap_cli.proofs.checks.check_reply.Goals as goal

pub returns-in-Ok : goal.returns-in-Ok
returns-in-Ok g c =
    c.beside_reply.ensures (file_read c.args.file) (rw c.shown.ensures c.in-Ok.ensures) c.files_below-files.ensures

pub returns-in-Err : goal.returns-in-Err
returns-in-Err g c =
    reply_of_no_text c.args.checking.now c.args.bytes.now (file_read c.args.file) _ c.into_reply.result c.in-Err.ensures
    c.into_reply.ensures
