use Rattle.std.proofs.Common.{arith, rules, take, []}
use Rattle.std.proofs.lemmas.List.{length-take-le}
use Rattle.sourcemap_headers.specs.HeaderReader.{ContainsInvalidHeader}
use Rattle.sourcemap_headers.proofs.HeaderReaderLemmas.{outputs_junk, outputs_end, nothing_after, rotated}
use Rattle.sourcemap_headers.proofs.header_reader.StripHeaderReader.read_header_chunk.Goals as goal

pub returns-then-junk_len-count : goal.returns-then-junk_len-count
returns-then-junk_len-count g c =
    let outputs =
    outputs_end _ _ _ (take c.in_ok-count.count c.read.new.buf) [] c.in-Ends.junk_len c.in_ok-count.ensures.bytes.0
    (c.in-Ends.ensures.junk c.requires.in_header)
    (nothing_after c.in_ok-count.count c.in-Ends.junk_len c.read.new.buf c.if-junk_len-count.true) in
    search (rules, outputs)

pub returns-in-StillJunk : goal.returns-in-StillJunk
returns-in-StillJunk g c =
    let outputs =
    outputs_junk _ _ _ _ _ c.in_ok-count.ensures.bytes.0 (c.in-StillJunk.ensures.junk c.requires.in_header) in
    search (rules, outputs)

pub returns-else-junk_len-count : goal.returns-else-junk_len-count
returns-else-junk_len-count g c = record {
  bound = search rules;
  outputs =
      outputs_end _ _ _ (take c.in_ok-count.count c.read.new.buf) _ c.in-Ends.junk_len c.in_ok-count.ensures.bytes.0
      (c.in-Ends.ensures.junk c.requires.in_header)
      (rotated c.in_ok-count.count c.in-Ends.junk_len c.read.new.buf c.rotate_left.new.self _
      (c.in_ok-count.ensures.bound.0) (omega (
        arith,
        c.in-Ends.ensures.within,
        length-take-le c.in_ok-count.count c.read.new.buf c.in_ok-count.ensures.bound.0,
      )) c.rotate_left.ensures.after);
  end = search rules;
  sound = search rules;
  known = search rules;
  error = search rules;
}

pub returns-in-IsInvalid : goal.returns-in-IsInvalid
returns-in-IsInvalid g c =
    let in_buffer : ContainsInvalidHeader c.read.new.buf = (
      c.args.self.now.state,
      c.in_ok-count.count,
      c.requires.in_header,
      c.in_ok-count.ensures.bound.0,
      c.in-IsInvalid.ensures.junk c.requires.in_header,
    ) in
    search (rules, in_buffer)
