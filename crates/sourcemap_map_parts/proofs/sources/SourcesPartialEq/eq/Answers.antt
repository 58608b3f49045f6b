use Rattle.sourcemap_map_parts.proofs.EqualityLemmas.{sources_decide}
use Rattle.sourcemap_map_parts.proofs.sources.SourcesPartialEq.eq.Goals as goal

pub returns-clause-same : goal.returns-clause-same
returns-clause-same c = rw c.are_same.ensures (sources_decide c.args.self.now c.args.other.now)
