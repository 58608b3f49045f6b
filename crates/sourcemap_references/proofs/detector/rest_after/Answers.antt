use Rattle.sourcemap_references.proofs.LineLemmas.{leaves_after}
use Rattle.sourcemap_references.proofs.ReferenceLemmas.{not_utf8_before}
use Rattle.sourcemap_references.proofs.detector.rest_after.Goals as goal

pub returns-in-Ok : goal.returns-in-Ok
returns-in-Ok c =
    let text = c.in-Ok.ensures.cases in
    leaves_after c.args.bytes.now c.args.end (λ r. r.now) _ c.requires text.1 c.lines_after_end.ensures

pub returns-in-Err : goal.returns-in-Err
returns-in-Err c = (not_utf8_before c.args.bytes.now c.args.end c.requires c.in-Err.ensures.cases.0, c.not_utf8.ensures)
