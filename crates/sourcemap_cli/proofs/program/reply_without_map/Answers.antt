-- What is not applied to a decoded map compiles, checks or asks.
use Rattle.sourcemap_cli.specs.Program.{file_read}
use Rattle.sourcemap_cli.proofs.ProgramLemmas.{questions_left}
use Rattle.sourcemap_cli.proofs.program.reply_without_map.Goals as goal

pub returns-in-Compile : goal.returns-in-Compile
returns-in-Compile g c = rw c.in-Compile.is (c.compile_reply.ensures (file_read c.args.file))

pub returns-in-Check : goal.returns-in-Check
returns-in-Check g c = rw c.in-Check.is (rw c.as_slice.ensures.value at c.check_reply.ensures)

pub compiled_reply-requires-clause-question : goal.compiled_reply-requires-clause-question
compiled_reply-requires-clause-question g c =
    questions_left c.args.command.now c.args.bytes.items c.requires c.in_default.not-Compile c.in_default.not-Check

pub compiled_reply-requires-clause-compiled : goal.compiled_reply-requires-clause-compiled
compiled_reply-requires-clause-compiled g c = rw c.as_slice-in_default.ensures.value c.requires

pub returns-in_default : goal.returns-in_default
returns-in_default g c = rw c.as_slice-in_default.ensures.value at c.compiled_reply.ensures
