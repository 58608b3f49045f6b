use Rattle.sourcemap_hermes.proofs.WriteLemmas.{encoded-compact}
use Rattle.sourcemap_hermes.proofs.encode.written_maps_are_compact.Goals as goal

pub returns : goal.returns
returns c = encoded-compact
