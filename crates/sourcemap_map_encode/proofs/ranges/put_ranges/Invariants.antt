use Rattle.std.proofs.Common.{option_copied, take, string_bytes}
use Rattle.sourcemap_mappings.proofs.WriteWalk.{Walked}
use Rattle.sourcemap_map_encode.specs.Buffered.{GrowsBy}
use Rattle.sourcemap_map_encode.proofs.SegmentLemmas.{Ranged}
use Rattle.sourcemap_map_encode.proofs.ranges.put_ranges.Given as goal

abbrev pub invariant-loop-token : goal.invariant-loop-token
invariant-loop-token g l = record {
  walked : Walked l.line (take l.token-index l.tokens) (option_copied l.before);
  ranged : GrowsBy (Ranged l.line (take l.token-index l.tokens) l.flags.items)
      (g.W.Write.contents l.fn.writer) (string_bytes l.fn.buffer) (g.W.Write.contents l.writer) (string_bytes l.buffer);
}
