use Rattle.sourcemap_map_parts.proofs.EqualityLemmas.{metadata_decides}
use Rattle.sourcemap_map_parts.proofs.metadata.MapMetadataPartialEq.eq.Goals as goal

pub returns-clause-same : goal.returns-clause-same
returns-clause-same c = rw c.are_same.ensures (metadata_decides c.args.self.now c.args.other.now)
