-- prover: wrong bodies refused fast
use Rattle.std.proofs.Common.{rules}
use Rattle.sourcemap_source_views.proofs.lines.terminator_length.Goals as goal

pub returns-in-13 : goal.returns-in-13
returns-in-13 c = search rules

pub returns-in_default-2 : goal.returns-in_default-2
returns-in_default-2 c = search rules

pub returns-in_default-3 : goal.returns-in_default-3
returns-in_default-3 c = search rules
