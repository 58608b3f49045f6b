use Rattle.sourcemap_cache.proofs.CompileLemmas.{same_meaning}
use Rattle.sourcemap_cache.proofs.laws.compiled_maps_mean_the_same.Goals as goal

pub returns : goal.returns
returns c = same_meaning
