use Rattle.std.proofs.Common.{◌≡◌, ◌≢◌, ℕ, List, [], ◌∷◌, ◌++◌, ◌==◌, length, sym, ◌∙◌, ap, subst, arith, false, Ok}
use Rattle.std.proofs.Common.{Err, ℤ}
use Rattle.std.proofs.lemmas.Result.{err_from_is_err_and}
use Rattle.std.proofs.lemmas.List.{append-nil, nil_from_length}
use Rattle.std.proofs.lemmas.Bool.{eqb-true, eqb-false}
use Rattle.std.proofs.lemmas.Int.{to_z-of_z}
use Rattle.std.specs.Prelude.{vec_len}
use Rattle.sourcemap_vlq.specs.Vlq.{Reads, HasError, IsSound}
use Rattle.sourcemap_errors.specs.declared.errors.Error.TheVariants.{VlqNoValues}
use Rattle.sourcemap_errors.proofs.AnswerLemmas.{UnlessMemory-from}
use Rattle.sourcemap_vlq.proofs.VlqLemmas.{SegmentAnswers-same, IsSound-more, HasError-later}
use Rattle.sourcemap_vlq.proofs.vlq.parse_vlq_segment.Goals as goal

pub returns-in_err-number-clause-only : goal.returns-in_err-number-clause-only
returns-in_err-number-clause-only c answer due =
    let p = err_from_is_err_and c.from_residual.result c.from_residual.ensures.1 in
    let text : List ℕ = c.args.segment.now in
    let rest : List ℕ = c.loop-rest.rest.now in
    let sound : IsSound text rest = record {
      front = c.loop-rest.invariant.0;
      numbers = c.loop-rest.numbers.items;
      reads = c.loop-rest.invariant.1;
      split = c.loop-rest.invariant.2;
    } in
    let test : (length rest == 0) ≡ false = sym c.is_empty.ensures ∙ c.loop-rest-test.true in
    let ne : rest ≢ [] = λ e. eqb-false (length rest) 0 test (ap length e) in
    let error : HasError text c.in_err-number.field-0.0 =
    HasError-later text rest sound ne c.in_err-number.field-0.0 c.in_err-number.ensures.error in
    let same : answer ≡ Err c.in_err-number.field-0.0 =
    SegmentAnswers-same text answer (Err c.in_err-number.field-0.0) due error in
    rw (p.1, p.2) (UnlessMemory-from c.in_err-number.field-0.0 same)

pub loop-rest-preserved : goal.loop-rest-preserved
loop-rest-preserved c =
    let more = IsSound-more c.args.segment.now c.loop-rest.rest.now c.in_ok-number.tail.now c.loop-rest.invariant.0
    c.loop-rest.numbers.items c.in_ok-number.number c.loop-rest.invariant.1 c.loop-rest.invariant.2
    (c.in_ok-number.ensures.number) in
    let pushed : c.push.new.self.items ≡ c.loop-rest.numbers.items ++ c.in_ok-number.number ∷ [] =
    grind (arith, to_z-of_z, c.in_ok-push.ensures.items) in
    (c.loop-rest.invariant.0 ++ c.in_ok-number.ensures.number.group, rw pushed more.0, more.1)

pub returns-then-is_empty-clause-only : goal.returns-then-is_empty-clause-only
returns-then-is_empty-clause-only c answer due =
    let none : c.loop-rest.numbers.items ≡ [] = nil_from_length c.loop-rest.numbers.items (omega
    (arith, eqb-true _ _ (sym c.is_empty-2.ensures ∙ c.if-is_empty.true))) in
    let left : c.loop-rest.rest.now ≡ [] =
    nil_from_length c.loop-rest.rest.now (eqb-true _ _ (sym c.is_empty.ensures ∙ c.loop-rest-test.false)) in
    let P : List ℤ → Type 0 = Reads c.loop-rest.invariant.0 in
    let none_read : c.loop-rest.invariant.0 ≡ [] = subst P none c.loop-rest.invariant.1 in
    let nothing : c.args.segment.now ≡ [] = cc (left, none_read, c.loop-rest.invariant.2) in
    SegmentAnswers-same c.args.segment.now answer (Err VlqNoValues) due nothing

pub returns-clause-only : goal.returns-clause-only
returns-clause-only c answer due =
    let some : c.loop-rest.numbers.items ≢ [] = λ e. eqb-false (vec_len c.loop-rest.numbers) 0 (sym c.is_empty-2.ensures
    ∙ c.if-is_empty.false) (omega (arith, ap length e)) in
    let left : c.loop-rest.rest.now ≡ [] =
    nil_from_length c.loop-rest.rest.now (eqb-true _ _ (sym c.is_empty.ensures ∙ c.loop-rest-test.false)) in
    let whole : c.args.segment.now ≡ c.loop-rest.invariant.0 =
    c.loop-rest.invariant.2 ∙ (ap (λ xs. c.loop-rest.invariant.0 ++ xs) left ∙ append-nil c.loop-rest.invariant.0) in
    let reads : Reads c.args.segment.now c.loop-rest.numbers.items = rw whole c.loop-rest.invariant.1 in
    SegmentAnswers-same c.args.segment.now answer (Ok c.loop-rest.numbers.items) due (reads, some)
