-- The test decides whether the values are equal.
use Rattle.sourcemap_index_model.proofs.EqualityLemmas.{trees_decide}
use Rattle.sourcemap_index.specs.Family.{map_tree}
use Rattle.sourcemap_index.proofs.equality.DecodedMapPartialEq.eq.Goals as goal

pub returns-clause-same : goal.returns-clause-same
returns-clause-same c = rw c.are_same_maps.ensures (trees_decide (map_tree c.args.self.now) (map_tree c.args.other.now))
