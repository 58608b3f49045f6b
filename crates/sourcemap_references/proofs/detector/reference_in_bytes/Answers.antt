use Rattle.std.proofs.Common.{◌∙◌, ap, refl, sym, Some}
use Rattle.sourcemap_references.proofs.ReferenceLemmas.{if_text-utf8, located, not_utf8_due}
use Rattle.sourcemap_references.specs.Reference.{reference_on}
use Rattle.sourcemap_references.proofs.detector.reference_in_bytes.Goals as goal

pub returns-in-Ok : goal.returns-in-Ok
returns-in-Ok c =
    let text = c.in-Ok.ensures.cases in
    located c.reference_on_line.result _ _
    (if_text-utf8 c.args.line.now _ text.1 ∙ ap (λ xs. Some (reference_on xs)) (sym text.0)) c.reference_on_line.ensures

pub returns-in-Err : goal.returns-in-Err
returns-in-Err c = not_utf8_due c.args.line.now (Some
    (reference_on c.args.line.now)) _ refl c.in-Err.ensures.cases.0 _ c.not_utf8.ensures
