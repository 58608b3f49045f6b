-- Bytes have one answer, unless memory runs out. Two `Io` errors of the same kind count as the same answer.
use Rattle.sourcemap_index.proofs.DecodeLemmas.{bytes_only}
use Rattle.sourcemap_index.proofs.decode.decode_slice.Goals as goal

pub returns-clause-only : goal.returns-clause-only
returns-clause-only c = bytes_only c.args.bytes.now c.decode_bytes.result c.decode_bytes.ensures.answer
