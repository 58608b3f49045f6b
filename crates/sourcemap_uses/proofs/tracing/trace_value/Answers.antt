-- The value decodes to a map that gives the answers of `t`.
use Rattle.serde_json.specs.View.{view}
use Rattle.sourcemap.specs.AnyMap.{map_tree}
use Rattle.sourcemap.specs.Decoder.{ValueDecodes}
use Rattle.sourcemap_uses.proofs.TracingLemmas.{value_alike, value_refused}
use Rattle.sourcemap_uses.proofs.tracing.trace_value.Goals as goal

pub returns-in-Ok : goal.returns-in-Ok
returns-in-Ok c =
    value_alike (ValueDecodes (view c.args.value.now)) c.args.positions.now c.in-Ok.map c.trace_text.result
    (λ t back. c.maps_read_back_answer_alike.ensures.read_back t back (view c.args.value.now) c.args.positions.now)
    c.in-Ok.ensures.answer
    (c.trace_text.ensures.text
    (c.well_formed_maps_are_in_order.ensures (map_tree c.in-Ok.map) c.in-Ok.ensures.well_formed))

pub returns-in-Err : goal.returns-in-Err
returns-in-Err c =
    value_refused (ValueDecodes (view c.args.value.now)) c.args.positions.now c.in-Err.error c.in-Err.ensures.only
