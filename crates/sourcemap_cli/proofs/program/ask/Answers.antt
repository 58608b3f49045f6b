-- Only `lookup` and `trace` ask a compiled map.
use Rattle.sourcemap_compiled.specs.Stored.{bytes_of}
use Rattle.sourcemap_cli.specs.Program.{file_read}
use Rattle.sourcemap_cli.proofs.ProgramLemmas.{asked_line, asked_trace, no_question}
use Rattle.sourcemap_cli.proofs.program.ask.Goals as goal

pub returns-in-Lookup : goal.returns-in-Lookup
returns-in-Lookup c =
    rw c.in-Lookup.is
    (asked_line _ _ _ (bytes_of c.args.map) (file_read c.args.file) c.compiled_line.result c.requires.sound
    c.compiled_line.ensures)

pub returns-in-Trace : goal.returns-in-Trace
returns-in-Trace c =
    rw c.in-Trace.is
    (asked_trace _ c.in-Trace.field-1 (bytes_of c.args.map) (file_read c.args.file) c.trace.result c.requires.sound
    (c.trace.ensures c.requires.sound))

pub returns-in_default : goal.returns-in_default
returns-in_default c =
    absurd (no_question c.args.command.now c.in_default.not-Lookup c.in_default.not-Trace c.requires.question)
