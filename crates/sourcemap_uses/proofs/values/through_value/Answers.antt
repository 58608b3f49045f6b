use Rattle.serde_json.specs.View.{view}
use Rattle.sourcemap.specs.AnyMap.{map_tree}
use Rattle.sourcemap.specs.Decoder.{ValueDecodes}
use Rattle.sourcemap_uses.proofs.ValuesLemmas.{memory_alone, restored}
use Rattle.sourcemap_uses.proofs.values.through_value.Goals as goal

pub returns-clause-restored : goal.returns-clause-restored
returns-clause-restored c = λ well.
    restored (map_tree c.args.map.now) (ValueDecodes (view c.in_ok-value.value)) (c.in_ok-value.ensures.reads_back well)
    c.from_value.result c.from_value.ensures.only

pub returns-clause-memory : goal.returns-clause-memory
returns-clause-memory c = λ well.
    memory_alone (map_tree c.args.map.now) (ValueDecodes (view c.in_ok-value.value))
    (c.in_ok-value.ensures.reads_back well) c.from_value.result c.from_value.ensures.only
