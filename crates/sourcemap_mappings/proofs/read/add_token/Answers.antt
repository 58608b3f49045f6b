use Rattle.std.proofs.Common.{◌++◌, ◌∷◌, [], refl, ap}
use Rattle.std.proofs.lemmas.Result.{err_from_is_err_and}
use Rattle.sourcemap_mappings.specs.Segment.{Segment}
use Rattle.sourcemap_errors.proofs.AnswerLemmas.{UnlessMemory-from}
use Rattle.sourcemap_mappings.proofs.ReadLemmas.{PartsError-segment, AddsParts-segment}
use Rattle.sourcemap_mappings.proofs.ReadOrder.{order_push}
use Rattle.sourcemap_mappings.proofs.ReadTable.{adds_one}
use Rattle.sourcemap_mappings.proofs.read.add_token.Goals as goal

pub returns-in_err-check_segment-clause-error : goal.returns-in_err-check_segment-clause-error
returns-in_err-check_segment-clause-error c = λ before here part numbers read.
    let s : Segment = record { index = c.args.position.index; numbers = numbers } in
    let error = c.in_err-check_segment.ensures before (here ++ s ∷ []) s read.sums_to read.count_is in
    let p = err_from_is_err_and c.from_residual.result c.from_residual.ensures.1 in
    rw (p.1, p.2) (UnlessMemory-from c.in_err-check_segment.field-0.0
    (PartsError-segment _ before here part s _ read.some read.reads error))

pub returns-clause-added : goal.returns-clause-added
returns-clause-added c = λ before here part numbers read.
    let s : Segment = record { index = c.args.position.index; numbers = numbers } in
    AddsParts-segment _ c.args.position c.args.bits.now before here part numbers c.token_at.result _ _ _
    read.some read.reads
    (c.in_ok-check_segment.ensures before (here ++ s ∷ []) s read.sums_to read.count_is)
    (c.token_at.ensures.token before (here ++ s ∷ []) s read.sums_to read.count_is refl)
    c.in_ok-push.ensures.items read.sums_to

pub returns-clause-order : goal.returns-clause-order
returns-clause-order c = λ earlier before rise rises.
    let kept = rise rises in
    rw c.in_ok-push.ensures.items
    (order_push c.args.position.line earlier.column c.args.sums.column c.args.tokens.now.items c.token_at.result
    c.token_at.ensures.destination kept.1 (before kept.0))

pub returns-clause-on_line : goal.returns-clause-on_line
returns-clause-on_line c =
    adds_one c.args.position.line c.args.tokens.now.items _ c.token_at.result c.in_ok-push.ensures.items
    (ap (λ p. p.0) c.token_at.ensures.destination)
