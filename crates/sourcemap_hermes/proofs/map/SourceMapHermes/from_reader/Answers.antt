-- The bytes decoded are those of the reader.
use Rattle.std.proofs.lemmas.Result.{err_from_is_err_and}
use Rattle.sourcemap_records.specs.Bytes.{BytesHaveResult}
use Rattle.sourcemap_records.proofs.BytesLemmas.{answer_of_reader, error_of_reader, reader_only}
use Rattle.sourcemap_hermes.specs.Decode.{RecordDecodesAsHermes}
use Rattle.sourcemap_hermes.specs.Map.{hermes_value}
use Rattle.sourcemap_hermes.proofs.DecodeLemmas.{only_once}
use Rattle.sourcemap_hermes.proofs.map.SourceMapHermes.from_reader.Goals as goal

pub returns-clause-answer : goal.returns-clause-answer
returns-clause-answer g c =
    answer_of_reader hermes_value (BytesHaveResult RecordDecodesAsHermes)
    (g.R.Read.remaining c.args.reader) c.in_ok-bytes.bytes.items
    c.hermes_in_owned.result c.in_ok-bytes.ensures c.hermes_in_owned.ensures.answer

pub returns-clause-only : goal.returns-clause-only
returns-clause-only g c =
    reader_only hermes_value RecordDecodesAsHermes only_once
    (g.R.Read.remaining c.args.reader) c.in_ok-bytes.bytes.items
    c.hermes_in_owned.result c.in_ok-bytes.ensures c.hermes_in_owned.ensures.answer

pub returns-in_err-bytes-clause-answer : goal.returns-in_err-bytes-clause-answer
returns-in_err-bytes-clause-answer g c =
    let p = err_from_is_err_and c.from_residual.result c.from_residual.ensures.1 in
    rw (p.1, p.2) (error_of_reader hermes_value (BytesHaveResult RecordDecodesAsHermes)
    (g.R.Read.remaining c.args.reader) _ c.in_err-bytes.ensures)
