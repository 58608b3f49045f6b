-- Bytes decode to what their record decodes to.
use Rattle.std.proofs.lemmas.Result.{err_from_is_err_and}
use Rattle.sourcemap_records.specs.Jsontypes.{tree}
use Rattle.sourcemap_records.proofs.BytesLemmas.{answer_of_bytes, error_of_bytes}
use Rattle.sourcemap_index.specs.Decode.{IndexDecodes}
use Rattle.sourcemap_index.specs.Family.{index_value}
use Rattle.sourcemap_index.proofs.DecodeIndexLemmas.{index_well_formed}
use Rattle.sourcemap_index.proofs.decode.index_in_owned.Goals as goal

pub returns-clause-answer : goal.returns-clause-answer
returns-clause-answer c =
    answer_of_bytes index_value IndexDecodes c.args.bytes.items (tree c.in_ok-raw.raw) c.in_ok-raw.ensures
    c.only_index.result c.only_index.ensures

pub returns-clause-well_formed : goal.returns-clause-well_formed
returns-clause-well_formed c = index_well_formed (tree c.in_ok-raw.raw) c.only_index.result c.only_index.ensures

pub returns-in_err-raw-clause-answer : goal.returns-in_err-raw-clause-answer
returns-in_err-raw-clause-answer c =
    let p = err_from_is_err_and c.from_residual.result c.from_residual.ensures.1 in
    rw (p.1, p.2) (error_of_bytes index_value IndexDecodes c.args.bytes.items _ c.in_err-raw.ensures)
