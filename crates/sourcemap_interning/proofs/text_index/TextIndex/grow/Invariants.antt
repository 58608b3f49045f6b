use Rattle.std.proofs.Common.{map, take}
use Rattle.sourcemap_interning.specs.Slots.{IsTable}
use Rattle.sourcemap_interning.proofs.text_index.TextIndex.grow.Given as goal

abbrev pub invariant-loop-number : goal.invariant-loop-number
invariant-loop-number g l = IsTable g.T.Text.bytes (map g.T.Text.bytes (take l.number l.text-items)) l.larger
