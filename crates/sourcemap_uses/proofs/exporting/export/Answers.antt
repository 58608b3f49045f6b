-- If the map is well-formed, the written text reads back (`written_maps_read_back`). Only `encode_in_parts` may fail.
use Rattle.std.proofs.lemmas.Result.{err_from_is_err_and}
use Rattle.sourcemap_uses.proofs.exporting.export.Goals as goal

pub returns-in_err-encode_in_parts-clause-error : goal.returns-in_err-encode_in_parts-clause-error
returns-in_err-encode_in_parts-clause-error g c =
    let p = err_from_is_err_and c.from_residual.result c.from_residual.ensures.1 in
    rw (p.1, p.2) c.in_err-encode_in_parts.ensures.error

pub returns-clause-written : goal.returns-clause-written
returns-clause-written g c =
    let written = c.in_ok-encode_in_parts.ensures.written in
    (written.0, written.2, λ well. c.written_maps_read_back.ensures c.args.map.now written.0 written.1 well)
