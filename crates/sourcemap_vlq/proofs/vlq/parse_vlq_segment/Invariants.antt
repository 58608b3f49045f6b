use Rattle.std.proofs.Common.{◌≡◌, ℕ, List, ◌++◌, length}
use Rattle.sourcemap_vlq.specs.Vlq.{Reads}
use Rattle.sourcemap_vlq.proofs.vlq.parse_vlq_segment.Given as goal

abbrev pub invariant-loop-rest : goal.invariant-loop-rest
invariant-loop-rest l = (front : List ℕ) × Reads front l.numbers.items × (l.segment ≡ front ++ l.rest)

abbrev pub decreases-loop-rest : goal.decreases-loop-rest
decreases-loop-rest l = length l.rest
