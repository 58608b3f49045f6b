use Rattle.std.proofs.Common.{sym, ◌∙◌}
use Rattle.sourcemap_hermes.proofs.DecodeLemmas.{answered}
use Rattle.sourcemap_hermes.proofs.decode.decode_hermes_record.Goals as goal

pub returns-in-Some-clause-answer : goal.returns-in-Some-clause-answer
returns-in-Some-clause-answer c =
    answered c.args.rsm c.take.new.self c.in-Some.entries
    (sym (sym c.in-Some.is ∙ c.take.ensures.value)) c.decode_with.result c.decode_with.ensures.answer
