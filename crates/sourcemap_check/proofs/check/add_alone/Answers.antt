use Rattle.std.proofs.Common.{[]}
use Rattle.sourcemap_check.proofs.check.add_alone.Goals as goal

pub returns-clause-added : goal.returns-clause-added
returns-clause-added c = λ reports. c.push.ensures.added [] reports
