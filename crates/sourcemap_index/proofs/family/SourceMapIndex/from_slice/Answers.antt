-- Bytes have one answer, unless memory runs out. Two `Io` errors of the same kind count as the same answer.
use Rattle.sourcemap_records.proofs.BytesLemmas.{bytes_only}
use Rattle.sourcemap_index.specs.Decode.{IndexDecodes}
use Rattle.sourcemap_index.specs.Family.{index_value}
use Rattle.sourcemap_index.proofs.DecodeIndexLemmas.{index_decodes_once}
use Rattle.sourcemap_index.proofs.family.SourceMapIndex.from_slice.Goals as goal

pub returns-clause-only : goal.returns-clause-only
returns-clause-only c =
    bytes_only index_value IndexDecodes index_decodes_once c.args.bytes.now c.index_in.result c.index_in.ensures.answer
