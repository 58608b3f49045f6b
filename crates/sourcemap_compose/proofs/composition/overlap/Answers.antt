-- prover: wrong bodies refused fast
use Rattle.std.proofs.Common.{rules}
use Rattle.sourcemap_compose.proofs.composition.overlap.Goals as goal

pub returns-then-is_before : goal.returns-then-is_before
returns-then-is_before c = search rules

pub returns-else-is_before : goal.returns-else-is_before
returns-else-is_before c = search rules
