-- `same_map` decides equality.
use Rattle.sourcemap_map_regular.proofs.EqualityLemmas.{same_map_decides}
use Rattle.sourcemap_map_regular.proofs.equality.SourceMapPartialEq.eq.Goals as goal

pub returns-clause-same : goal.returns-clause-same
returns-clause-same c = rw c.same_maps.ensures (same_map_decides c.args.self.now c.args.other.now)
