-- prover: explicit search
use Rattle.std.proofs.Common.{rules}
use Rattle.sourcemap_hermes.proofs.decode.decode_unless_index.Goals as goal

pub returns-then-is_some-clause-well_formed : goal.returns-then-is_some-clause-well_formed
returns-then-is_some-clause-well_formed c = search rules

pub returns-clause-well_formed : goal.returns-clause-well_formed
returns-clause-well_formed c = search rules
