-- Unless memory runs out, the result for the reader is the result for the bytes read from the reader, or the error of a
-- failed read.
use Rattle.std.proofs.lemmas.Result.{err_from_is_err_and}
use Rattle.sourcemap_records.specs.Bytes.{BytesHaveResult}
use Rattle.sourcemap_map_regular.specs.Decode.{RegularDecodes}
use Rattle.sourcemap_records.proofs.BytesLemmas.{answer_of_reader, error_of_reader, reader_only}
use Rattle.sourcemap_map_regular.proofs.DecodeLemmas.{regular_decodes_once}
use Rattle.sourcemap_map_regular.proofs.map.SourceMap.from_reader.Goals as goal

pub returns-clause-answer : goal.returns-clause-answer
returns-clause-answer g c =
    answer_of_reader (λ m. m) (BytesHaveResult RegularDecodes)
    (g.R.Read.remaining c.args.reader) c.in_ok-bytes.bytes.items
    c.decode_owned.result c.in_ok-bytes.ensures c.decode_owned.ensures.answer

pub returns-clause-only : goal.returns-clause-only
returns-clause-only g c =
    reader_only (λ m. m) RegularDecodes regular_decodes_once
    (g.R.Read.remaining c.args.reader) c.in_ok-bytes.bytes.items
    c.decode_owned.result c.in_ok-bytes.ensures c.decode_owned.ensures.answer

pub returns-in_err-bytes-clause-answer : goal.returns-in_err-bytes-clause-answer
returns-in_err-bytes-clause-answer g c =
    let p = err_from_is_err_and c.from_residual.result c.from_residual.ensures.1 in
    rw (p.1, p.2) (error_of_reader (λ m. m) (BytesHaveResult RegularDecodes)
    (g.R.Read.remaining c.args.reader) _ c.in_err-bytes.ensures)
