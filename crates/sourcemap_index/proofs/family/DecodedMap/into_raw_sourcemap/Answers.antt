-- The returned record is as `RecordAnswer` says.
use Rattle.sourcemap_index.specs.Family.{map_tree}
use Rattle.sourcemap_index.proofs.EncodeLemmas.{record_answer}
use Rattle.sourcemap_index.proofs.family.DecodedMap.into_raw_sourcemap.Goals as goal

pub returns : goal.returns
returns c = record_answer (map_tree c.args.self) c.map_into_record.result c.map_into_record.ensures
