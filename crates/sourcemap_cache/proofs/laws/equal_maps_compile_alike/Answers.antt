use Rattle.sourcemap_cache.proofs.CompileLemmas.{one_file}
use Rattle.sourcemap_cache.proofs.laws.equal_maps_compile_alike.Goals as goal

pub returns : goal.returns
returns c = one_file
