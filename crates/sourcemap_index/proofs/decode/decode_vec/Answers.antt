-- Bytes have one answer, unless memory runs out. Two `Io` errors of the same kind count as the same answer.
use Rattle.sourcemap_index.proofs.DecodeLemmas.{bytes_only}
use Rattle.sourcemap_index.proofs.decode.decode_vec.Goals as goal

pub returns-clause-only : goal.returns-clause-only
returns-clause-only c = bytes_only c.args.input.items c.decode_owned.result c.decode_owned.ensures.answer
