-- The input is read only if the words are a command. In this case, the reply is correct for the bytes of the input.
use Rattle.std.proofs.Common.{Err, [], inl, inr, ◌∙◌, ap, map, string_bytes}
use Rattle.std.proofs.lemmas.Result.{err_from_is_err_and}
use Rattle.sourcemap_cli.proofs.ProgramLemmas.{cut_short, out_of_memory, reading_failed, reply_of_read_command, reply_of_reader, usage_for_others}
use Rattle.sourcemap_cli.proofs.program.reply_to_input.Goals as goal

pub returns-in_ok-bytes-in-Some-clause-answer : goal.returns-in_ok-bytes-in-Some-clause-answer
returns-in_ok-bytes-in-Some-clause-answer g c =
    reply_of_reader (map string_bytes c.args.words.now) (g.R.Read.remaining c.args.input.now)
    c.in_ok-bytes-in-Some.bytes.items
    c.reply_and_read_file.result (inr c.in_ok-bytes-in-Some.ensures)
    (reply_of_read_command (map string_bytes c.args.words.now) c.in_ok-bytes-in-Some.bytes.items c.in-Some.command
    c.reply_and_read_file.result (rw c.in-Some.is at c.in_ok-command.ensures) c.reply_and_read_file.ensures)

pub returns-in_err-bytes-in-Some-clause-answer : goal.returns-in_err-bytes-in-Some-clause-answer
returns-in_err-bytes-in-Some-clause-answer g c =
    let r = c.from_residual-in_err-bytes-in-Some in
    let p = err_from_is_err_and r.result r.ensures.1 in
    let asked = rw c.in-Some.is at c.in_ok-command.ensures in
    cut_short (map string_bytes c.args.words.now) (g.R.Read.remaining c.args.input.now) _ r.result (p.1 ∙ ap Err p.2)
    (reading_failed (map string_bytes c.args.words.now) c.in-Some.command _ asked c.in_err-bytes-in-Some.ensures)

pub returns-in-None-clause-answer : goal.returns-in-None-clause-answer
returns-in-None-clause-answer g c =
    reply_of_reader (map string_bytes c.args.words.now) (g.R.Read.remaining c.args.input.now) [] c.usage_reply.result
    (inl (rw c.in-None.is at c.in_ok-command.ensures))
    (usage_for_others (map string_bytes c.args.words.now) [] c.usage_reply.result
    (rw c.in-None.is at c.in_ok-command.ensures) c.usage_reply.ensures)

pub returns-in_err-command-clause-answer : goal.returns-in_err-command-clause-answer
returns-in_err-command-clause-answer g c =
    let p = err_from_is_err_and c.from_residual.result c.from_residual.ensures.1 in
    cut_short (map string_bytes c.args.words.now) (g.R.Read.remaining c.args.input.now) _ c.from_residual.result
    (p.1 ∙ ap Err p.2) (out_of_memory (map string_bytes c.args.words.now) _ c.in_err-command.ensures)
