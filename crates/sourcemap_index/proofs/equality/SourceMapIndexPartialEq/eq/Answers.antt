-- The test decides whether the values are equal.
use Rattle.sourcemap_index.proofs.EqualityLemmas.{index_decides}
use Rattle.sourcemap_index.specs.Family.{index_value}
use Rattle.sourcemap_index.proofs.equality.SourceMapIndexPartialEq.eq.Goals as goal

pub returns-clause-same : goal.returns-clause-same
returns-clause-same c =
    rw c.are_same_indexes.ensures (index_decides (index_value c.args.self.now) (index_value c.args.other.now))
