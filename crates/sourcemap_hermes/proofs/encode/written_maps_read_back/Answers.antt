use Rattle.sourcemap_hermes.proofs.WriteLemmas.{encoded-back}
use Rattle.sourcemap_hermes.proofs.encode.written_maps_read_back.Goals as goal

pub returns : goal.returns
returns c = encoded-back
