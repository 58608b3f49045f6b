use Rattle.std.proofs.Common.{List, ◌+◌, ◌≤◌, length}
use Rattle.sourcemap_check_segments.specs.Segments.{semicolon, page_of}
use Rattle.sourcemap_check_segments.specs.Steps.{AreWithin, counts_of, parts_left, bytes_left}
use Rattle.sourcemap_check_report.specs.declared.report.Finding.{Finding}
use Rattle.sourcemap_check_report.specs.Report.{Reports}
use Rattle.sourcemap_check_segments.proofs.FindingLemmas.{PageSoFar}
use Rattle.sourcemap_check_segments.proofs.check.add_segments.Given as goal

abbrev pub invariant-loop-rest : goal.invariant-loop-rest
invariant-loop-rest l = record {
  within : AreWithin l.sums;
  count : l.sums.count + bytes_left l.rest ≤ length l.mappings + 1;
  number : l.number + bytes_left l.rest ≤ length l.mappings + 1;
  so_far : (all : List Finding) → Reports l.most all l.initial.report
      → PageSoFar (counts_of l.limits) l.map l.most all (page_of l.mappings) l.number (parts_left semicolon l.rest)
      l.sums l.report;
}

abbrev pub decreases-loop-rest : goal.decreases-loop-rest
decreases-loop-rest l = bytes_left l.rest
