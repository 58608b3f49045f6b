use Rattle.sourcemap_map_regular.proofs.WriteLemmas.{encoded-back}
use Rattle.sourcemap_map_regular.proofs.write.written_maps_read_back.Goals as goal

pub returns : goal.returns
returns c = encoded-back
