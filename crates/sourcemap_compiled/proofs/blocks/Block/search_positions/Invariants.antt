use Rattle.std.proofs.Common.{◌≡◌, ◌≤◌, ◌<◌, ◌+◌, ◌-◌, ◌/◌, ◌^◌}
use Rattle.std.specs.Int.{IsPowerOfTwo}
use Rattle.sourcemap_compiled.specs.Blocks.{position_in}
use Rattle.sourcemap_compiled.specs.Stored.{IsNear}
use Rattle.sourcemap_compiled.proofs.blocks.Block.search_positions.Given as goal

abbrev pub invariant-loop-rest : goal.invariant-loop-rest
invariant-loop-rest l = record {
  halves : IsPowerOfTwo (l.rest + 1);
  room : l.index + l.rest ≤ 64;
  within : l.index ≤ l.size;
  later : 0 < l.index;
  first : l.index ≡ 1 → l.ahead ≡ l.self.start;
  ahead : 1 < l.index
      → IsNear (position_in l.self.bytes.now (l.self.start / 2 ^ 32) l.self.head (l.index - 1)) (l.position / 2 ^ 32)
      l.ahead;
  next : l.index + l.rest < l.size
      → IsNear (position_in l.self.bytes.now (l.self.start / 2 ^ 32) l.self.head (l.index + l.rest))
      (l.position / 2 ^ 32) l.next;
  end : l.size ≤ l.index + l.rest → l.next ≡ l.after;
  before : l.ahead < l.position;
  from : l.index + l.rest < l.size → l.position ≤ l.next;
}

abbrev pub decreases-loop-rest : goal.decreases-loop-rest
decreases-loop-rest l = l.rest
