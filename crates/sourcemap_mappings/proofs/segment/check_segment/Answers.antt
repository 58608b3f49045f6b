-- prover: explicit search
use Rattle.std.proofs.Common.{rules}
use Rattle.sourcemap_mappings.proofs.segment.check_segment.Goals as goal

pub returns-then-not-is_size : goal.returns-then-not-is_size
returns-then-not-is_size c = search rules

pub returns-then-sums-limits : goal.returns-then-sums-limits
returns-then-sums-limits c = search rules

pub returns-then-sums-limits-2 : goal.returns-then-sums-limits-2
returns-then-sums-limits-2 c = search rules

pub returns : goal.returns
returns c = search rules
