use Rattle.std.proofs.Common.{List, ℕ, ◌+◌, ◌≤◌, ◌==◌, length}
use Rattle.std.specs.List.{slice_split}
use Rattle.sourcemap_check_report.specs.declared.report.Finding.{Finding}
use Rattle.sourcemap_check_segments.specs.Segments.{comma}
use Rattle.sourcemap_check_report.specs.Report.{Reports}
use Rattle.sourcemap_check_segments.specs.Steps.{AreTextSums, AreWithin, counts_of, parts_left, bytes_left}
use Rattle.sourcemap_check_segments.proofs.FindingLemmas.{LineSoFar}
use Rattle.sourcemap_check_segments.proofs.check.add_line.Given as goal

abbrev pub invariant-loop-rest : goal.invariant-loop-rest
invariant-loop-rest l = record {
  within : AreWithin l.sums;
  count : l.sums.count + bytes_left l.rest ≤ l.fn.sums.count + length l.text + 1;
  index : l.index + bytes_left l.rest ≤ length l.text + 1;
  so_far : (all : List Finding) (before : List (List ℕ)) → AreTextSums before l.fn.sums
      → Reports l.most all l.initial.report
      → LineSoFar (counts_of l.limits) l.map l.number l.most all before (slice_split (λ b. b == comma) l.text) l.index
      (parts_left comma l.rest) l.sums l.report;
}

abbrev pub decreases-loop-rest : goal.decreases-loop-rest
decreases-loop-rest l = bytes_left l.rest
