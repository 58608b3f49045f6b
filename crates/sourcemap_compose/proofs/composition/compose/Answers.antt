use Rattle.std.proofs.Common.{◌≡◌, List, length, sym, ap, subst, ◌∙◌, Result, Ok, arith, IsSortedByKey}
use Rattle.std.proofs.lemmas.Result.{err_from_is_err_and}
use Rattle.sourcemap_errors.specs.declared.errors.Error.{Error}
use Rattle.sourcemap_errors.proofs.AnswerLemmas.{UnlessMemory-weaker}
use Rattle.sourcemap_tokens.specs.Tokens.{AreInOrder, destination, position_cmp}
use Rattle.sourcemap_tokens.proofs.SortLemmas.{length-sorted_by, sorted-sorted_by}
use Rattle.sourcemap_tokens.proofs.TokensLemmas.{AreInOrder-in_order, length-in_order, position_cmp_total}
use Rattle.sourcemap_tokens.specs.declared.tokens.RawToken.{RawToken}
use Rattle.sourcemap_compose.specs.Stretches.{source}
use Rattle.sourcemap_compose.proofs.CompositionLemmas.{composition-refused, sorted_is}
use Rattle.sourcemap_compose.proofs.composition.compose.Goals as goal

pub walk-requires-clause-adjustments : goal.walk-requires-clause-adjustments
walk-requires-clause-adjustments c =
    let is = sorted_is source c.args.adjustment.now _ _ c.in_ok-adjustment_copy.ensures c.copy_or-adjustments.ensures in
    subst (IsSortedByKey source position_cmp) (sym is)
    (sorted-sorted_by source position_cmp_total c.args.adjustment.now)

pub walk-requires-clause-originals : goal.walk-requires-clause-originals
walk-requires-clause-originals c =
    let is = sorted_is destination c.args.original.now _ _ c.in_ok-original_copy.ensures c.copy_or-originals.ensures in
    subst (IsSortedByKey destination position_cmp) (sym is)
    (sorted-sorted_by destination position_cmp_total c.args.original.now)

pub returns-in_err-walked-clause-answer : goal.returns-in_err-walked-clause-answer
returns-in_err-walked-clause-answer c =
    let is_original =
    sorted_is destination c.args.original.now _ _ c.in_ok-original_copy.ensures c.copy_or-originals.ensures in
    let is_adjustment =
    sorted_is source c.args.adjustment.now _ _ c.in_ok-adjustment_copy.ensures c.copy_or-adjustments.ensures in
    let p = err_from_is_err_and c.from_residual-in_err-walked.result c.from_residual-in_err-walked.ensures.1 in
    rw (p.1, p.2)
    (UnlessMemory-weaker c.in_err-walked.field-0.0
    (λ h. composition-refused c.args.original.now c.args.adjustment.now _ _ is_original is_adjustment
    c.in_err-walked.field-0.0 h.0 h.1)
    c.in_err-walked.ensures.refused)

ok_injective : {xs ys : List RawToken} → ◌≡◌ {A = Result (List RawToken) Error} (Ok xs) (Ok ys) → xs ≡ ys
ok_injective e = cc e

pub returns-clause-in_order : goal.returns-clause-in_order
returns-clause-in_order c =
    subst AreInOrder (ok_injective c.in_ok-tokens.ensures) (AreInOrder-in_order c.in_ok-walked.walked.items)

pub returns-clause-few : goal.returns-clause-few
returns-clause-few c =
    let is_original =
    sorted_is destination c.args.original.now _ _ c.in_ok-original_copy.ensures c.copy_or-originals.ensures in
    let is_adjustment =
    sorted_is source c.args.adjustment.now _ _ c.in_ok-adjustment_copy.ensures c.copy_or-adjustments.ensures in
    let many_original : length c.copy_or-originals.result.now ≡ length c.args.original.now =
    ap length is_original ∙ length-sorted_by destination position_cmp_total c.args.original.now in
    let many_adjustment : length c.copy_or-adjustments.result.now ≡ length c.args.adjustment.now =
    ap length is_adjustment ∙ length-sorted_by source position_cmp_total c.args.adjustment.now in
    let many : length c.in_ok-tokens.tokens.items ≡ length c.in_ok-walked.walked.items =
    ap length (sym (ok_injective c.in_ok-tokens.ensures)) ∙ length-in_order c.in_ok-walked.walked.items in
    let few = c.in_ok-walked.ensures.few in
    omega arith
