use Rattle.std.proofs.Common.{◌≡◌, ◌≤◌, ◌+◌, ◌++◌, ℕ, ℤ, List, length}
use Rattle.sourcemap_vlq.specs.Vlq.{Reads}
use Rattle.sourcemap_web.specs.Segments.{AreWritten}
use Rattle.sourcemap_web.proofs.segments.sm_parse_segment.Given as goal

abbrev pub invariant-loop-rest : goal.invariant-loop-rest
invariant-loop-rest l = record {
  read : (front : List ℕ) × (list : List ℤ) × Reads front list × (l.segment ≡ front ++ l.rest)
      × (length list ≡ l.found) × AreWritten list l.initial.numbers l.numbers;
  inside : l.found + length l.rest ≤ length l.segment;
  long : length l.numbers ≡ length l.initial.numbers;
}

abbrev pub decreases-loop-rest : goal.decreases-loop-rest
decreases-loop-rest l = length l.rest
