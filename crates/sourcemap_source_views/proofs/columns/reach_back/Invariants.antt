use Rattle.std.proofs.Common.{◌≤◌}
use Rattle.sourcemap_source_views.specs.Columns.{IsOffset}
use Rattle.sourcemap_source_views.proofs.columns.reach_back.Given as goal

abbrev pub invariant-loop-before : goal.invariant-loop-before
invariant-loop-before l = record {
  offset : IsOffset l.line l.at.offset l.at.units;
  ahead : l.col ≤ l.at.units;
}

abbrev pub decreases-loop-before : goal.decreases-loop-before
decreases-loop-before l = l.at.units
