use Rattle.std.proofs.Common.{◌≡◌, ◌≤◌, ◌*◌}
use Rattle.sourcemap_compiled.specs.Blocks.{widths_before}
use Rattle.sourcemap_compiled.proofs.blocks.Block.widths_before.Given as goal

abbrev pub invariant-loop-before : goal.invariant-loop-before
invariant-loop-before l = record {
  sum : l.sum ≡ widths_before l.self.bytes.now l.self.head l.before;
  few : l.sum ≤ 63 * l.before;
}
