-- If the words are a command, the reply reports the result of the command. Otherwise the reply is the usage. `Ends`
-- relates words, bytes and a file to the endings that a run may have. It may allow several endings, such as two errors
-- with the same text. The reply has the text and the status of each of them (`IsReply`).
use Rattle.std.proofs.Common.{map, string_bytes}
use Rattle.sourcemap_cli.specs.Program.{file_read}
use Rattle.sourcemap_cli.proofs.ProgramLemmas.{only_reply, reply_of_command, reply_to_others}
use Rattle.sourcemap_cli.proofs.program.reply_to.Goals as goal

pub returns-in-Some-clause-answer : goal.returns-in-Some-clause-answer
returns-in-Some-clause-answer g c =
    reply_of_command (map string_bytes c.args.words.now) c.args.bytes.items (file_read c.args.file) c.in-Some.command
    c.reply_to_command.result (rw c.in-Some.is at c.in_ok-command.ensures) c.reply_to_command.ensures

pub returns-in-Some-clause-only : goal.returns-in-Some-clause-only
returns-in-Some-clause-only g c =
    only_reply (map string_bytes c.args.words.now) c.args.bytes.items (file_read c.args.file) c.reply_to_command.result
    (returns-in-Some-clause-answer g c)

pub returns-in-None-clause-answer : goal.returns-in-None-clause-answer
returns-in-None-clause-answer g c =
    reply_to_others (file_read c.args.file) (map string_bytes c.args.words.now) c.args.bytes.items c.usage_reply.result
    (rw c.in-None.is at c.in_ok-command.ensures) c.usage_reply.ensures

pub returns-in-None-clause-only : goal.returns-in-None-clause-only
returns-in-None-clause-only g c =
    only_reply (map string_bytes c.args.words.now) c.args.bytes.items (file_read c.args.file) c.usage_reply.result
    (returns-in-None-clause-answer g c)
