-- prover: wrong bodies refused fast
use Rattle.std.proofs.Common.{rules}
use Rattle.sourcemap_line_index.proofs.probe.KeyProbe.new.Goals as goal

pub returns-clause-position : goal.returns-clause-position
returns-clause-position c = search rules

pub returns-clause-fresh : goal.returns-clause-fresh
returns-clause-fresh c = search rules
