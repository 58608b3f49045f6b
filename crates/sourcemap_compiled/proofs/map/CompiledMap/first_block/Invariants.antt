use Rattle.std.proofs.Common.{◌≤◌, ◌<◌, ◌-◌, ◌^◌}
use Rattle.sourcemap_compiled.specs.Blocks.{start_at}
use Rattle.sourcemap_compiled.specs.Layout.{block_count}
use Rattle.sourcemap_compiled.proofs.map.CompiledMap.first_block.Given as goal

abbrev pub invariant-loop-low : goal.invariant-loop-low
invariant-loop-low l = record {
  ordered : l.low ≤ l.high;
  within : l.high ≤ block_count l.self.bytes.now;
  few : l.high ≤ 2 ^ 26;
  before : 0 < l.low → start_at l.self.bytes.now (l.low - 1) < l.position;
  from : l.high < block_count l.self.bytes.now → l.position ≤ start_at l.self.bytes.now l.high;
}

abbrev pub decreases-loop-low : goal.decreases-loop-low
decreases-loop-low l = l.high - l.low
