-- Unless memory runs out, bytes decode to the result for the record that they hold, or to the error for bytes without a
-- record.
use Rattle.std.proofs.lemmas.Result.{err_from_is_err_and}
use Rattle.sourcemap_records.specs.Jsontypes.{tree}
use Rattle.sourcemap_map_regular.specs.Decode.{RegularDecodes}
use Rattle.sourcemap_records.proofs.BytesLemmas.{answer_of_bytes, error_of_bytes}
use Rattle.sourcemap_map_regular.proofs.decode.decode_owned.Goals as goal

pub returns-clause-answer : goal.returns-clause-answer
returns-clause-answer c =
    answer_of_bytes (λ m. m) RegularDecodes c.args.bytes.items (tree c.in_ok-raw.raw) c.in_ok-raw.ensures
    c.only_regular.result c.only_regular.ensures.answer

pub returns-in_err-raw-clause-answer : goal.returns-in_err-raw-clause-answer
returns-in_err-raw-clause-answer c =
    let p = err_from_is_err_and c.from_residual.result c.from_residual.ensures.1 in
    rw (p.1, p.2) (error_of_bytes (λ m. m) RegularDecodes c.args.bytes.items _ c.in_err-raw.ensures)
