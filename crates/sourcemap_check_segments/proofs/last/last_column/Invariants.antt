use Rattle.std.proofs.Common.{◌+◌, ◌≤◌, ◌==◌, length}
use Rattle.std.specs.List.{slice_split}
use Rattle.sourcemap_check_segments.specs.Segments.{comma}
use Rattle.sourcemap_check_segments.specs.Steps.{IsWithin, parts_left, bytes_left}
use Rattle.sourcemap_check_segments.proofs.FindingLemmas.{ColumnsSoFar}
use Rattle.sourcemap_check_segments.proofs.last.last_column.Given as goal

abbrev pub invariant-loop-rest : goal.invariant-loop-rest
invariant-loop-rest l = record {
  within : IsWithin l.count l.column;
  count : l.count + bytes_left l.rest ≤ length l.text + 1;
  so_far : ColumnsSoFar (slice_split (λ b. b == comma) l.text) (parts_left comma l.rest) l.column l.best;
}

abbrev pub decreases-loop-rest : goal.decreases-loop-rest
decreases-loop-rest l = bytes_left l.rest
