use Rattle.std.proofs.Common.{◌≡◌, ◌∙◌, sym, ap, subst, Ok}
use Rattle.sourcemap_errors.specs.Answer.{Gives}
use Rattle.sourcemap_bundle_split.specs.Split.{utf8_text}
use Rattle.sourcemap_bundle_split.proofs.SplitLemmas.{text-not_utf8, text-utf8}
use Rattle.sourcemap_bundle_split.proofs.split.view_of.Goals as goal

pub returns-in-Err : goal.returns-in-Err
returns-in-Err c = ap utf8_text (sym c.data.ensures) ∙ text-not_utf8 c.data.result.now c.in-Err.ensures.cases.0

pub returns-in-Ok : goal.returns-in-Ok
returns-in-Ok c =
    let due : utf8_text c.args.found.now.text.now ≡ Ok c.in-Ok.text.now =
    ap utf8_text (sym c.data.ensures) ∙ text-utf8 c.data.result.now c.in-Ok.ensures.cases.1
    ∙ ap Ok (sym c.in-Ok.ensures.cases.0) in
    subst (λ answer. Gives (λ view. view) c.new.result answer) (sym due) c.new.ensures
