use Rattle.std.proofs.Common.{take, ap, ◌∙◌, Some}
use Rattle.sourcemap_headers.proofs.HeaderReaderLemmas.{outputs_consumed}
use Rattle.sourcemap_headers.proofs.header_reader.StripHeaderReader.read_after_junk.Goals as goal

pub returns-in-Some-clause-bytes : goal.returns-in-Some-clause-bytes
returns-in-Some-clause-bytes g c = (
  outputs_consumed g.R.Read.remaining _ _ c.read_chunk.new.self
      (take c.in-Some.count c.read_chunk.new.buf) c.loop.invariant.0
      (rw c.in-Some.is at c.in_ok-count.ensures.outputs),
  λ none not_empty. c.in_ok-count.ensures.end (c.in-Some.is ∙ ap Some none),
)
