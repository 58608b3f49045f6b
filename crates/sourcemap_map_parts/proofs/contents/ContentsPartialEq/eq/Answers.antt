use Rattle.sourcemap_map_parts.proofs.EqualityLemmas.{contents_decide}
use Rattle.sourcemap_map_parts.proofs.contents.ContentsPartialEq.eq.Goals as goal

pub returns-clause-same : goal.returns-clause-same
returns-clause-same c = rw c.are_same.ensures (contents_decide c.args.self.now c.args.other.now)
