use Rattle.std.proofs.Common.{◌≡◌, List, ◌++◌, length, ℕ}
use Rattle.sourcemap_check_order.specs.Ranges.{AreDistances}
use Rattle.sourcemap_check_order.proofs.ranges.sum_of.Given as goal

abbrev pub invariant-loop-byte : goal.invariant-loop-byte
invariant-loop-byte l = (behind : List ℕ) × (l.line ≡ l.front ++ behind) × AreDistances behind l.read

abbrev pub decreases-loop-byte : goal.decreases-loop-byte
decreases-loop-byte l = length l.front
