-- A data URL has one list of bytes, so the URL holds a map exactly if these bytes are one.
use Rattle.std.proofs.Common.{◌↔◌, IfOk, IsTrue, subst}
use Rattle.std.proofs.lemmas.Result.{IfOk-weaker}
use Rattle.sourcemap_json.specs.Detection.{AreMap}
use Rattle.sourcemap_uses.proofs.RecordsLemmas.{held_map}
use Rattle.sourcemap_uses.proofs.records.url_holds_map.Goals as goal

pub returns-in-Ok-clause-exact : goal.returns-in-Ok-clause-exact
returns-in-Ok-clause-exact c =
    let bytes = c.in-Ok.bytes.items in
    IfOk-weaker c.is_sourcemap_slice.result (λ is. IsTrue is ↔ AreMap bytes) _
    (held_map c.args.url.now bytes (c.data_urls_have_one_answer.ensures c.args.url.now) c.in-Ok.ensures)
    (subst (λ bytes. IfOk c.is_sourcemap_slice.result (λ is. IsTrue is ↔ AreMap bytes)) c.as_slice.ensures.value
    c.is_sourcemap_slice.ensures.answer)
