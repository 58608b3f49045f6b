-- Unless memory runs out, the bytes determine the result. If the result is an `Io` error, they determine only its kind.
use Rattle.sourcemap_records.proofs.BytesLemmas.{bytes_only}
use Rattle.sourcemap_hermes.specs.Decode.{RecordDecodesAsHermes}
use Rattle.sourcemap_hermes.specs.Map.{hermes_value}
use Rattle.sourcemap_hermes.proofs.DecodeLemmas.{only_once}
use Rattle.sourcemap_hermes.proofs.map.SourceMapHermes.from_slice.Goals as goal

pub returns-clause-only : goal.returns-clause-only
returns-clause-only c =
    bytes_only hermes_value RecordDecodesAsHermes only_once c.args.bytes.now c.hermes_in.result
    c.hermes_in.ensures.answer
