-- By the law `written_maps_read_back`, decoding the returned bytes restores the rewritten map.
use Rattle.std.proofs.Common.{refl, false, Err}
use Rattle.std.proofs.lemmas.Result.{err_from_is_err_and}
use Rattle.sourcemap.specs.Reading.{BytesHaveResult, RegularDecodes}
use Rattle.sourcemap_uses.proofs.RefusalLemmas.{unwritten}
use Rattle.sourcemap_uses.proofs.RewritingLemmas.{bare_due, bare_refused, but_details, published_as}
use Rattle.sourcemap_uses.proofs.publishing.publish.Goals as goal

pub returns-clause-published : goal.returns-clause-published
returns-clause-published g c =
    let m = c.in_ok-map.map in
    let bare = c.in_ok-bare.bare in
    let options = record c.default.result { with_names = false; with_source_contents = false } in
    let is = bare_due options m bare refl refl c.default.ensures.no_files c.default.ensures.no_prefixes
    c.in_ok-bare.ensures.value in
    let less = but_details options m bare refl refl c.default.ensures.no_prefixes c.in_ok-bare.ensures.meaning in
    let text = c.in_ok-text.text.items in
    let well = c.in_ok-bare.ensures.well_formed c.in_ok-map.ensures.well_formed in
    published_as m bare c.args.bytes.now text c.in_ok-map.ensures.answer is less
    (c.written_maps_read_back.ensures bare text c.in_ok-text.ensures.text well)

pub returns-in_err-map-clause-error : goal.returns-in_err-map-clause-error
returns-in_err-map-clause-error g c =
    let p = err_from_is_err_and c.from_residual.result c.from_residual.ensures.1 in
    rw (p.1, p.2) c.in_err-map.ensures.answer

pub returns-in_err-bare-clause-error : goal.returns-in_err-bare-clause-error
returns-in_err-bare-clause-error g c =
    let options = record c.default.result { with_names = false; with_source_contents = false } in
    let e = c.in_err-bare.field-0.0 in
    let p = err_from_is_err_and c.from_residual-in_err-bare.result c.from_residual-in_err-bare.ensures.1 in
    rw (p.1, p.2) (bare_refused options e
    (BytesHaveResult RegularDecodes c.args.bytes.now (Err e)) c.default.ensures.no_files c.in_err-bare.ensures.value)

pub returns-in_err-text-clause-error : goal.returns-in_err-text-clause-error
returns-in_err-text-clause-error g c =
    let e = c.in_err-text.field-0.0 in
    let p = err_from_is_err_and c.from_residual-in_err-text.result c.from_residual-in_err-text.ensures.1 in
    rw (p.1, p.2) (unwritten c.in_ok-bare.bare e
    (BytesHaveResult RegularDecodes c.args.bytes.now (Err e)) c.in_err-text.ensures.error)
