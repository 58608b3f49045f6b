use Rattle.sourcemap_cache.proofs.CompileLemmas.{accepted, sound}
use Rattle.sourcemap_cache.proofs.laws.compiled_maps_are_read.Goals as goal

pub returns : goal.returns
returns c = record { accepted = accepted; sound = sound }
