use Rattle.serde_json.specs.View.{view}
use Rattle.sourcemap.specs.AnyMap.{map_tree}
use Rattle.sourcemap.specs.Decoder.{ValueDecodes}
use Rattle.sourcemap_uses.proofs.TracingLemmas.{if_well_formed}
use Rattle.sourcemap_uses.proofs.tracing.trace_stored.Goals as goal

pub returns : goal.returns
returns c =
    if_well_formed (map_tree c.args.map.now) (ValueDecodes (view c.in_ok-value.value)) _
    (c.trace_value.ensures (map_tree c.args.map.now)) c.in_ok-value.ensures.reads_back
