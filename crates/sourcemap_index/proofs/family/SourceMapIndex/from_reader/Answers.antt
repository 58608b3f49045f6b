-- A reader decodes to what its bytes decode to, unless a read fails or memory runs out.
use Rattle.std.proofs.lemmas.Result.{err_from_is_err_and}
use Rattle.sourcemap_records.specs.Bytes.{BytesHaveResult}
use Rattle.sourcemap_records.proofs.BytesLemmas.{answer_of_reader, error_of_reader, reader_only}
use Rattle.sourcemap_index.specs.Decode.{IndexDecodes}
use Rattle.sourcemap_index.specs.Family.{index_value}
use Rattle.sourcemap_index.proofs.DecodeIndexLemmas.{index_decodes_once}
use Rattle.sourcemap_index.proofs.family.SourceMapIndex.from_reader.Goals as goal

pub returns-clause-answer : goal.returns-clause-answer
returns-clause-answer g c =
    answer_of_reader index_value (BytesHaveResult IndexDecodes) (g.R.Read.remaining c.args.reader)
    c.in_ok-bytes.bytes.items
    c.index_in_owned.result c.in_ok-bytes.ensures c.index_in_owned.ensures.answer

pub returns-clause-only : goal.returns-clause-only
returns-clause-only g c =
    reader_only index_value IndexDecodes index_decodes_once (g.R.Read.remaining c.args.reader) c.in_ok-bytes.bytes.items
    c.index_in_owned.result c.in_ok-bytes.ensures c.index_in_owned.ensures.answer

pub returns-in_err-bytes-clause-answer : goal.returns-in_err-bytes-clause-answer
returns-in_err-bytes-clause-answer g c =
    let p = err_from_is_err_and c.from_residual.result c.from_residual.ensures.1 in
    rw (p.1, p.2) (error_of_reader index_value (BytesHaveResult IndexDecodes) (g.R.Read.remaining c.args.reader) _
    c.in_err-bytes.ensures)
