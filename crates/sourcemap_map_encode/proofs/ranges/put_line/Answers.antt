use Rattle.std.proofs.Common.{string_bytes}
use Rattle.sourcemap_map_encode.proofs.BufferedLemmas.{OnOk-then}
use Rattle.sourcemap_map_encode.proofs.SegmentLemmas.{line-grown}
use Rattle.sourcemap_map_encode.proofs.ranges.put_line.Goals as goal

pub returns-clause-text : goal.returns-clause-text
returns-clause-text g c =
    let written = c.in_ok-push_bits.ensures.written in
    OnOk-then c.put_line_ends.result _ _
    (λ ends. line-grown (g.W.Write.contents c.args.writer.now) (g.W.Write.contents c.put_line_ends.new.writer)
    (string_bytes c.args.buffer.now) (string_bytes c.push_bits.new.text) (string_bytes c.put_line_ends.new.buffer)
    written.0 c.args.flags.now c.args.line_ends written.1 written.2 ends)
    c.put_line_ends.ensures.text
