-- prover: explicit search
use Rattle.std.proofs.Common.{rules}
use Rattle.sourcemap_mappings.proofs.segment.add_steps.Goals as goal

pub returns-clause-rises : goal.returns-clause-rises
returns-clause-rises c = search rules
