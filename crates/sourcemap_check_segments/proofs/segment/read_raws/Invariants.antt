use Rattle.std.proofs.Common.{◌≡◌, List, ◌++◌, length, ℕ}
use Rattle.sourcemap_check_segments.specs.Steps.{DescribesBytes}
use Rattle.sourcemap_check_segments.proofs.segment.read_raws.Given as goal

abbrev pub invariant-loop-byte : goal.invariant-loop-byte
invariant-loop-byte l = (behind : List ℕ) × (l.segment ≡ l.front ++ behind) × DescribesBytes behind l.read

abbrev pub decreases-loop-byte : goal.decreases-loop-byte
decreases-loop-byte l = length l.front
