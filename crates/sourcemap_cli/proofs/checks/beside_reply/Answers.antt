-- The report is beside the files, or they were not read.
use Rattle.std.specs.Option.{option_copied}
use Rattle.sourcemap_cli.specs.Checks.{texts_of}
use Rattle.sourcemap_cli.proofs.ProgramLemmas.{reply_of_check, reply_of_no_files}
use Rattle.sourcemap_cli.proofs.checks.beside_reply.Goals as goal

pub returns-in-Ok : goal.returns-in-Ok
returns-in-Ok c = λ file reads finds.
    reply_of_check c.args.checking.now c.args.bytes.now (option_copied c.args.generated) (texts_of c.in-Ok.files) file
    c.report_reply.result reads (rw c.in-Ok.is at finds) (rw c.listed.ensures at c.report_reply.ensures)

pub returns-in-Err : goal.returns-in-Err
returns-in-Err c = λ file reads finds.
    reply_of_no_files c.args.checking.now c.args.bytes.now (option_copied c.args.generated) file c.in-Err.error
    c.into_reply.result reads (rw c.in-Err.is at finds) c.into_reply.ensures
