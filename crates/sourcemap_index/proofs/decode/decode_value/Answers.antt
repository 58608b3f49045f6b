-- A JSON value decodes to what its record decodes to.
use Rattle.std.proofs.lemmas.Result.{err_from_is_err_and}
use Rattle.serde_json.specs.View.{view}
use Rattle.sourcemap_records.specs.Jsontypes.{tree}
use Rattle.sourcemap_records.proofs.BytesLemmas.{answer_of_record}
use Rattle.sourcemap_index.specs.Family.{map_tree}
use Rattle.sourcemap_index_model.specs.Decode.{TreeDecodes}
use Rattle.sourcemap_index.proofs.DecodeLemmas.{error_of_value}
use Rattle.sourcemap_index.proofs.decode.decode_value.Goals as goal

pub returns-clause-answer : goal.returns-clause-answer
returns-clause-answer c =
    answer_of_record map_tree TreeDecodes (view c.args.value.now) (tree c.in_ok-raw.raw) c.in_ok-raw.ensures
    c.decode_map.result c.decode_map.ensures.answer

pub returns-in_err-raw-clause-answer : goal.returns-in_err-raw-clause-answer
returns-in_err-raw-clause-answer c =
    let p = err_from_is_err_and c.from_residual.result c.from_residual.ensures.1 in
    rw (p.1, p.2) (error_of_value (view c.args.value.now) _ c.in_err-raw.ensures)
