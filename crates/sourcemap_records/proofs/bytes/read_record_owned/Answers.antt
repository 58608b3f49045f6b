-- The record of the bytes is read from what is kept of their JSON value.
use Rattle.std.proofs.lemmas.Result.{err_from_is_err_and}
use Rattle.serde_json.specs.View.{view}
use Rattle.sourcemap_records.specs.Jsontypes.{tree}
use Rattle.sourcemap_records.proofs.BytesLemmas.{no_json}
use Rattle.sourcemap_records.proofs.KeptLemmas.{record_of_kept}
use Rattle.sourcemap_records.proofs.bytes.read_record_owned.Goals as goal

pub returns : goal.returns
returns c = record_of_kept tree c.from_owned.result c.args.bytes.items (view c.in_ok-value.value) c.in_ok-value.ensures
    c.from_owned.ensures

pub returns-in_err-value : goal.returns-in_err-value
returns-in_err-value c =
    let p = err_from_is_err_and c.from_residual.result c.from_residual.ensures.1 in
    rw (p.1, p.2) (no_json c.args.bytes.items _ c.in_err-value.ensures)
