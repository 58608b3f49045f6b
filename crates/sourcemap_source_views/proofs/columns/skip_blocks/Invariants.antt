use Rattle.std.proofs.Common.{◌≤◌, ◌-◌, length}
use Rattle.sourcemap_source_views.specs.Columns.{IsOffset}
use Rattle.sourcemap_source_views.proofs.columns.skip_blocks.Given as goal

abbrev pub invariant-loop-next : goal.invariant-loop-next
invariant-loop-next l = record {
  offset : IsOffset l.line l.at.offset l.at.units;
  before : l.at.units ≤ l.col;
}

abbrev pub decreases-loop-next : goal.decreases-loop-next
decreases-loop-next l = length l.line - l.at.offset
