-- The bytes decode to a map that gives the answers of `t`.
use Rattle.sourcemap.specs.AnyMap.{map_tree}
use Rattle.sourcemap.specs.Decoder.{BytesDecode}
use Rattle.sourcemap_uses.proofs.TracingLemmas.{bytes_alike, bytes_refused}
use Rattle.sourcemap_uses.proofs.tracing.trace_bytes.Goals as goal

pub returns-in-Ok : goal.returns-in-Ok
returns-in-Ok c =
    bytes_alike (BytesDecode c.args.bytes.now) c.args.positions.now c.in-Ok.map c.trace_text.result
    c.maps_read_back_answer_alike.ensures.alike c.in-Ok.ensures.only
    (c.trace_text.ensures.text
    (c.well_formed_maps_are_in_order.ensures (map_tree c.in-Ok.map) c.in-Ok.ensures.well_formed))

pub returns-in-Err : goal.returns-in-Err
returns-in-Err c =
    bytes_refused (BytesDecode c.args.bytes.now) c.args.positions.now c.in-Err.error c.in-Err.ensures.only
