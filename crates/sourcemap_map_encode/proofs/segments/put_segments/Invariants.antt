use Rattle.std.proofs.Common.{◌≤◌, ◌++◌, option_copied, take, string_bytes}
use Rattle.std.specs.Str.{IsAscii}
use Rattle.sourcemap_map_encode.specs.Buffered.{GrowsBy}
use Rattle.sourcemap_map_encode.proofs.SegmentLemmas.{Written}
use Rattle.sourcemap_map_encode.proofs.segments.put_segments.Given as goal

abbrev pub invariant-loop-token : goal.invariant-loop-token
invariant-loop-token g l = record {
  written : GrowsBy (Written l.names (take l.token-index l.tokens) (option_copied l.previous) l.against)
      (g.W.Write.contents l.fn.writer) (string_bytes l.fn.buffer) (g.W.Write.contents l.writer)
      (string_bytes l.buffer ++ take l.at l.digits);
  within : l.at ≤ 1024;
  ascii : IsAscii (take l.at l.digits);
}
