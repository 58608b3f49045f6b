use Rattle.sourcemap_mappings.proofs.BufferLemmas.{Adds-ascii}
use Rattle.sourcemap_mappings.proofs.write.put_token.Goals as goal

pub returns-clause-ascii : goal.returns-clause-ascii
returns-clause-ascii c = Adds-ascii _ _ _ c.put_segment.ensures.text c.in_ok-start.ensures.ascii
