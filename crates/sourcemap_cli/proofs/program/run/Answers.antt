-- If writing succeeds, the output is the text of the reply, or the text of an error and a newline if there is no reply.
use Rattle.std.proofs.Common.{map, string_bytes}
use Rattle.sourcemap_cli.proofs.ProgramLemmas.{runs}
use Rattle.sourcemap_cli.proofs.program.run.Goals as goal

pub returns-clause-answer : goal.returns-clause-answer
returns-clause-answer g c =
    runs (map string_bytes c.args.words.now) (g.R.Read.remaining c.args.input.now) c.reply_to_input-reply.result
    (g.W.Write.contents c.args.output.now) (g.W.Write.contents c.print_reply.new.output) c.print_reply.result
    c.reply_to_input-reply.ensures.answer c.print_reply.ensures
