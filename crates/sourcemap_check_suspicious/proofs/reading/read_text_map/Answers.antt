use Rattle.std.proofs.lemmas.Result.{err_from_is_err_and}
use Rattle.sourcemap_records.specs.Jsontypes.{tree}
use Rattle.sourcemap_records.proofs.BytesLemmas.{error_of_bytes}
use Rattle.sourcemap_check_suspicious.specs.Reading.{TextMapDecodes, flat_value}
use Rattle.sourcemap_check_suspicious.proofs.ReadingLemmas.{text_map_given}
use Rattle.sourcemap_check_suspicious.proofs.reading.read_text_map.Goals as goal

pub returns-in-Ok : goal.returns-in-Ok
returns-in-Ok c =
    text_map_given c.args.most c.args.bytes.now (tree c.in_ok-raw.raw)
    (record { map = c.in-Ok.map; doubts = c.in_ok-doubts.doubts }) c.in_ok-raw.ensures
    (c.in-Ok.ensures c.in_ok-raw.ensures) c.in_ok-doubts.ensures.doubts

pub returns-in_err-raw : goal.returns-in_err-raw
returns-in_err-raw c =
    let p = err_from_is_err_and c.from_residual.result c.from_residual.ensures.1 in
    rw (p.1, p.2) (error_of_bytes flat_value TextMapDecodes c.args.bytes.now _ c.in_err-raw.ensures)
