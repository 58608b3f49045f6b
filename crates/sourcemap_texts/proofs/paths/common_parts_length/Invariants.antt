use Rattle.std.proofs.Common.{◌-◌, length}
use Rattle.sourcemap_texts.proofs.PathsLemmas.{IsWalk}
use Rattle.sourcemap_texts.proofs.paths.common_parts_length.Given as goal

abbrev pub invariant-loop-kept : goal.invariant-loop-kept
invariant-loop-kept l = IsWalk l.a l.b l.at l.kept

abbrev pub decreases-loop-kept : goal.decreases-loop-kept
decreases-loop-kept l = length l.a - l.at
