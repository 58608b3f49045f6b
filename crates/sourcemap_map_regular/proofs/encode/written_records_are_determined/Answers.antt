use Rattle.sourcemap_map_regular.proofs.WriteLemmas.{record_once}
use Rattle.sourcemap_map_regular.proofs.encode.written_records_are_determined.Goals as goal

pub returns : goal.returns
returns c = record_once
