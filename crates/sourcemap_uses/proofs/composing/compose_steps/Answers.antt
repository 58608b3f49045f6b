use Rattle.std.proofs.Common.{subst}
use Rattle.sourcemap.specs.Answer.{Gives}
use Rattle.sourcemap.specs.Composition.{composition}
use Rattle.sourcemap_uses.proofs.ComposingLemmas.{composed_twice, first_refused, moved_twice}
use Rattle.sourcemap_uses.proofs.composing.compose_steps.Goals as goal

pub returns-in-Ok-clause-answer : goal.returns-in-Ok-clause-answer
returns-in-Ok-clause-answer c =
    composed_twice c.args.original.now c.args.second.now c.args.third.now c.in-Ok.middle.items c.in-Ok.ensures.answer
    c.compose-in-Ok.result
    (subst (λ tokens. Gives (λ tokens. tokens.items) c.compose-in-Ok.result (composition tokens c.args.third.now))
    c.as_slice.ensures.value c.compose-in-Ok.ensures.answer)

pub returns-in-Ok-clause-moved : goal.returns-in-Ok-clause-moved
returns-in-Ok-clause-moved c =
    moved_twice c.args.original.now c.args.second.now c.args.third.now c.in-Ok.middle.items c.in-Ok.ensures.answer
    c.composed_tokens_stay_within.ensures c.moved_positions_answer_as_before.ensures c.in-Ok.ensures.in_order
    c.compose-in-Ok.result
    (subst (λ tokens. Gives (λ tokens. tokens.items) c.compose-in-Ok.result (composition tokens c.args.third.now))
    c.as_slice.ensures.value c.compose-in-Ok.ensures.answer)

pub returns-in-Err-clause-answer : goal.returns-in-Err-clause-answer
returns-in-Err-clause-answer c =
    first_refused c.args.original.now c.args.second.now c.args.third.now c.in-Err.error c.in-Err.ensures.answer
