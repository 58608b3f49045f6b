-- prover: explicit search
use Rattle.std.proofs.Common.{rules}
use Rattle.sourcemap_errors.proofs.errors.JsonFaultDisplay.fmt.Goals as goal

pub returns-in-Parse-clause-writes : goal.returns-in-Parse-clause-writes
returns-in-Parse-clause-writes g c = search rules

pub returns-in-Parse-clause-styled : goal.returns-in-Parse-clause-styled
returns-in-Parse-clause-styled g c = search rules

pub returns-in-Shape-clause-writes : goal.returns-in-Shape-clause-writes
returns-in-Shape-clause-writes g c = search rules

pub returns-in-Shape-clause-styled : goal.returns-in-Shape-clause-styled
returns-in-Shape-clause-styled g c = search rules
