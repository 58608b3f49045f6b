-- The bytes are a map if what is kept of their JSON value is a map. If `read_kept` returns an error other than
-- `OutOfMemory`, the bytes are not a map.
use Rattle.serde_json.specs.View.{view}
use Rattle.sourcemap_records.proofs.DetectionLemmas.{not_a_map}
use Rattle.sourcemap_records.proofs.KeptLemmas.{map_of_kept}
use Rattle.sourcemap_records.proofs.detection.is_sourcemap_slice.Goals as goal

pub returns-in-Ok-clause-answer : goal.returns-in-Ok-clause-answer
returns-in-Ok-clause-answer c = map_of_kept c.value_is_map.result c.args.bytes.now (view c.in-Ok.value) c.in-Ok.ensures
    c.value_is_map.ensures

pub returns-in-Err-clause-answer : goal.returns-in-Err-clause-answer
returns-in-Err-clause-answer c = not_a_map c.args.bytes.now c.in-Err.error c.in-Err.ensures c.false_unless_memory.result
    c.false_unless_memory.ensures
