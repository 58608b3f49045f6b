use Rattle.std.proofs.Common.{◌≤◌, ◌-◌, length}
use Rattle.sourcemap_source_views.specs.Lines.{IsPartialTable}
use Rattle.sourcemap_source_views.proofs.lines.LineTable.new.Given as goal

abbrev pub invariant-loop-offset : goal.invariant-loop-offset
invariant-loop-offset l = (l.offset ≤ length l.bytes) × IsPartialTable l.bytes l.table l.start l.offset

abbrev pub decreases-loop-offset : goal.decreases-loop-offset
decreases-loop-offset l = length l.bytes - l.offset
