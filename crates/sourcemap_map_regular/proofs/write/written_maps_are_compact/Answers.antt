use Rattle.sourcemap_map_regular.proofs.WriteLemmas.{encoded-compact}
use Rattle.sourcemap_map_regular.proofs.write.written_maps_are_compact.Goals as goal

pub returns : goal.returns
returns c = encoded-compact
