-- For a map with sorted sections, the output is `trace_from` for the positions in the file. If the file cannot be read,
-- the result is the error of reading.
use Rattle.sourcemap_cli.proofs.ProgramLemmas.{answers_due}
use Rattle.sourcemap_errors.proofs.AnswerLemmas.{UnlessMemory-from}
use Rattle.std.proofs.Common.{refl}
use Rattle.sourcemap_cli.proofs.program.trace.Goals as goal

pub returns-in-Ok : goal.returns-in-Ok
returns-in-Ok c = λ ordered.
    rw c.in-Ok.is
    (answers_due c.trace_text_from.result _ (rw c.as_slice.ensures.value at (c.trace_text_from.ensures.text ordered)))

pub returns-in-Err : goal.returns-in-Err
returns-in-Err c = λ ordered. rw c.in-Err.is (UnlessMemory-from _ refl)
