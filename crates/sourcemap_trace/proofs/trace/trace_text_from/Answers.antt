-- Each pass of the loop answers the first of the remaining lines.
use Rattle.std.proofs.Common.{◌∙◌, ◌<◌, length, rules, string_bytes}
use Rattle.sourcemap_trace.specs.Asked.{asked_meaning}
use Rattle.sourcemap_trace.specs.Positions.{first_of}
use Rattle.sourcemap_trace.proofs.TraceLemmas.{first_line_answered}
use Rattle.sourcemap_trace.proofs.trace.trace_text_from.Goals as goal

pub loop-rest-preserved : goal.loop-rest-preserved
loop-rest-preserved c = λ ordered.
    let some : 0 < length c.loop-rest.rest.now = search rules in
    first_line_answered (first_of c.args.counting) (asked_meaning c.args.map) c.loop-rest.rest.now
    c.next_position-position.result.1.now (string_bytes c.loop-rest.text) (string_bytes c.push_answer.new.text)
    c.next_position-position.result.0 some c.next_position-position.ensures.position
    c.next_position-position.ensures.later (c.in_ok-push_answer.ensures.answer ordered) ∙ c.loop-rest.invariant ordered
