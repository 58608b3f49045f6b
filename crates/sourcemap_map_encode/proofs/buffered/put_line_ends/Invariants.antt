use Rattle.std.proofs.Common.{◌≡◌, ◌+◌, ◌-◌, ◌≤◌, [], replicate, string_bytes}
use Rattle.sourcemap_mappings.specs.Segment.{semicolon}
use Rattle.sourcemap_map_encode.specs.Buffered.{Grows}
use Rattle.sourcemap_map_encode.proofs.buffered.put_line_ends.Given as goal

abbrev pub invariant-loop-left : goal.invariant-loop-left
invariant-loop-left g l = record {
  grown : Grows (g.W.Write.contents l.fn.writer) (string_bytes l.fn.buffer) (g.W.Write.contents l.writer)
      (string_bytes l.buffer)
      (replicate (l.count - l.left) semicolon);
  within : l.left ≤ l.count;
  empty : 16384 ≤ l.left → string_bytes l.buffer ≡ [];
}

abbrev pub decreases-loop-left : goal.decreases-loop-left
decreases-loop-left g l = l.left + 1 - 16384

abbrev pub invariant-loop-line : goal.invariant-loop-line
invariant-loop-line g l = record {
  grown : Grows (g.W.Write.contents l.fn.writer) (string_bytes l.fn.buffer) (g.W.Write.contents l.writer)
      (string_bytes l.buffer)
      (replicate (l.count - l.left + l._line) semicolon);
  within : l.left ≤ l.count;
  so_far : l._line ≤ l.left;
}
