use Rattle.std.proofs.Common.{arith, ◌∙◌, sym}
use Rattle.sourcemap_headers.proofs.HeaderReaderLemmas.{junk_byte_at}
use Rattle.sourcemap_headers.proofs.header_reader.skip_junk.Goals as goal

pub loop-byte-preserved : goal.loop-byte-preserved
loop-byte-preserved c = (
  omega arith,
  λ later. sym (junk_byte_at c.args.chunk.now later c.loop-byte.byte-index c.loop-byte-test.true c.if-byte-eq10.false)
      ∙ (rw c.if-after_return.false at (c.loop-byte.invariant.1 later)),
)
