-- A sound map answers, any other is refused.
use Rattle.std.proofs.Common.{subst, sym}
use Rattle.sourcemap_compiled.specs.Soundness.{IsSound}
use Rattle.sourcemap_cli.specs.Program.{file_read, is_applied}
use Rattle.sourcemap_cli.proofs.ProgramLemmas.{by_else, reply_of_answer, reply_of_fault}
use Rattle.sourcemap_cli.proofs.program.compiled_reply.Goals as goal

pub ask-answer-requires-clause-sound : goal.ask-answer-requires-clause-sound
ask-answer-requires-clause-sound c = subst IsSound (sym c.in-Ok.ensures.0) c.in-Ok.ensures.1

pub returns-in-Ok : goal.returns-in-Ok
returns-in-Ok c =
    let command = c.args.command.now in
    let bytes = c.args.bytes.now in
    let file = file_read c.args.file in
    reply_of_answer command bytes file c.ask-answer.result c.into_reply.result
    (by_else (is_applied command bytes) command bytes file c.ask-answer.result c.requires.compiled
    (rw c.in-Ok.ensures.0 at c.ask-answer.ensures)) c.into_reply.ensures

pub returns-in-Err : goal.returns-in-Err
returns-in-Err c =
    reply_of_fault c.args.command.now c.args.bytes.now (file_read c.args.file) _ c.refused_reply.result
    c.requires.question c.requires.compiled c.in-Err.ensures c.refused_reply.ensures
