use Rattle.sourcemap_trace.proofs.TraceLemmas.{flat_alike}
use Rattle.sourcemap_trace.proofs.trace.flat_maps_answer_alike.Goals as goal

pub returns : goal.returns
returns c = flat_alike
