-- Unless memory runs out, the bytes determine the result. For an `Io` error, the bytes determine only the kind.
use Rattle.sourcemap_map_regular.specs.Decode.{RegularDecodes}
use Rattle.sourcemap_records.proofs.BytesLemmas.{bytes_only}
use Rattle.sourcemap_map_regular.proofs.DecodeLemmas.{regular_decodes_once}
use Rattle.sourcemap_map_regular.proofs.map.SourceMap.from_slice.Goals as goal

pub returns-clause-only : goal.returns-clause-only
returns-clause-only c =
    bytes_only
    (λ m. m) RegularDecodes regular_decodes_once c.args.bytes.now c.decode_slice.result c.decode_slice.ensures.answer
