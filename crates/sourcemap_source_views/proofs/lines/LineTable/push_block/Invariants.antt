use Rattle.std.proofs.Common.{◌≡◌, ◌+◌, ◌-◌, ◌≤◌, map}
use Rattle.sourcemap_source_views.specs.Lines.{IsPartialTable, is_terminator}
use Rattle.sourcemap_source_views.proofs.lines.LineTable.push_block.Given as goal
use lib.Lanes.{chunk, mask_l}

abbrev pub invariant-loop-left : goal.invariant-loop-left
invariant-loop-left l = record {
  low : l.from ≤ l.offset;
  high : l.offset ≤ l.from + 64;
  mask : l.left ≡ mask_l (map is_terminator (chunk l.offset (l.from + 64 - l.offset) l.bytes));
  tabled : IsPartialTable l.bytes l.self l.start l.offset;
}

abbrev pub decreases-loop-left : goal.decreases-loop-left
decreases-loop-left l = l.from + 64 - l.offset
