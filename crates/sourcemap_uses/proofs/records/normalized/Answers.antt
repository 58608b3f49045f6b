-- `from_value` returns the record of the value, or no record is due.
use Rattle.std.proofs.Common.{◌≡◌}
use Rattle.std.proofs.lemmas.Result.{IfOk-weaker}
use Rattle.serde_json.specs.View.{view}
use Rattle.sourcemap_json.specs.Due.{Gives-given}
use Rattle.sourcemap_json.specs.Jsontypes.{record_of, tree, written}
use Rattle.sourcemap_uses.proofs.RecordsLemmas.{due-Ok, no_record}
use Rattle.sourcemap_uses.proofs.records.normalized.Goals as goal

pub returns-in-Ok-clause-value : goal.returns-in-Ok-clause-value
returns-in-Ok-clause-value c =
    let t = tree c.in-Ok.raw in
    IfOk-weaker c.into_value.result (λ new. view new ≡ written t) _
    (λ new is. (t, due-Ok (record_of (view c.args.value.now)) t c.in-Ok.ensures, is))
    (Gives-given view (written t) c.into_value.result c.into_value.ensures.value)

pub returns-in-Err-clause-error : goal.returns-in-Err-clause-error
returns-in-Err-clause-error c = no_record (record_of (view c.args.value.now)) c.in-Err.error c.in-Err.ensures
