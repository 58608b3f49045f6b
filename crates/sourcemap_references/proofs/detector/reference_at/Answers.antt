use Rattle.std.proofs.Common.{subst, IsUtf8, sym}
use Rattle.sourcemap_references.proofs.ReferenceLemmas.{decided, not_utf8_due}
use Rattle.sourcemap_references.proofs.detector.reference_at.Goals as goal

pub returns-in-Ok : goal.returns-in-Ok
returns-in-Ok c =
    let text = c.in-Ok.ensures.cases in
    decided c.args.bytes.now _ c.range_from.result.now c.args.line c.reference_on_line.result c.requires text.0
    (subst IsUtf8 (sym text.0) text.1)
    c.range_from.ensures.value c.reference_on_line.ensures

pub returns-in-Err : goal.returns-in-Err
returns-in-Err c = not_utf8_due _ _ _ c.requires.first c.in-Err.ensures.cases.0 _ c.not_utf8.ensures
