use Rattle.sourcemap_cache.proofs.CompileLemmas.{like_flat}
use Rattle.sourcemap_cache.proofs.laws.compiled_maps_answer_alike.Goals as goal

pub returns : goal.returns
returns c = like_flat
