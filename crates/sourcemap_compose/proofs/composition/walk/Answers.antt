use Rattle.std.proofs.Common.{◌≡◌, ◌∙◌, sym, subst, Some, slice_get, arith, inl, inr, false}
use Rattle.std.specs.List.{list_any}
use Rattle.std.proofs.lemmas.Result.{err_from_is_err_and}
use Rattle.sourcemap_errors.proofs.AnswerLemmas.{UnlessMemory-weaker}
use Rattle.sourcemap_tokens.specs.Tokens.{destination}
use Rattle.sourcemap_compose.specs.Composition.{composed_all, pair, overflows_column}
use Rattle.sourcemap_compose.specs.Stretches.{source, stretches}
use Rattle.sourcemap_compose.proofs.StretchesLemmas.{sound_at, stretch_index, stretch_within}
use Rattle.sourcemap_compose.proofs.CompositionLemmas.{length-pair, next_adjustment, next_both, next_original}
use Rattle.sourcemap_compose.proofs.CompositionLemmas.{none-append, overflows_in_all, reaches_ahead, walked_all}
use Rattle.sourcemap_compose.proofs.composition.walk.Goals as goal
use Rattle.sourcemap_compose.proofs.composition.walk.Goals.{in_default, in_default-2}

pub push_pair-requires : goal.push_pair-requires
push_pair-requires c meets =
    let state = c.loop-adjustment in
    let a = c.in-Some-Some.a in
    let o = c.in-Some-Some.o in
    reaches_ahead a o
    (sound_at source c.args.adjustments.now state.at_adjustment a
    (sym state.invariant.adjustment ∙ c.in-Some-Some.is-0))
    (sound_at destination c.args.originals.now state.at_original o
    (sym state.invariant.original ∙ c.in-Some-Some.is-1)) meets

pub returns-in_err-push_pair-clause-refused : goal.returns-in_err-push_pair-clause-refused
returns-in_err-push_pair-clause-refused c =
    let state = c.loop-adjustment in
    let a = c.in-Some-Some.a in
    let o = c.in-Some-Some.o in
    let at_a = stretch_index source c.args.adjustments.now state.at_adjustment a c.requires.adjustments
    (sym state.invariant.adjustment ∙ c.in-Some-Some.is-0) in
    let at_o = stretch_index destination c.args.originals.now state.at_original o c.requires.originals
    (sym state.invariant.original ∙ c.in-Some-Some.is-1) in
    let p = err_from_is_err_and c.from_residual-in_err-push_pair.result c.from_residual-in_err-push_pair.ensures.1 in
    rw (p.1, p.2)
    (UnlessMemory-weaker c.in_err-push_pair.field-0.0
    (λ h. (
      overflows_in_all (stretches source c.args.adjustments.now) (stretches destination c.args.originals.now)
          state.at_adjustment state.at_original a o at_a at_o state.tokens.items _ state.invariant.so_far h.0,
      h.1,
    ))
    c.in_err-push_pair.ensures.refused)

pub loop-adjustment-smaller-then-is_before : goal.loop-adjustment-smaller-then-is_before
loop-adjustment-smaller-then-is_before c =
    let state = c.loop-adjustment in
    let within = stretch_within destination c.args.originals.now state.at_original c.in-Some-Some.o
    (sym state.invariant.original ∙ c.in-Some-Some.is-1) in
    omega (arith, within)

pub loop-adjustment-smaller-then-is_before-2 : goal.loop-adjustment-smaller-then-is_before-2
loop-adjustment-smaller-then-is_before-2 c =
    let state = c.loop-adjustment in
    let within = stretch_within source c.args.adjustments.now state.at_adjustment c.in-Some-Some.a
    (sym state.invariant.adjustment ∙ c.in-Some-Some.is-0) in
    omega (arith, within)

pub loop-adjustment-smaller : goal.loop-adjustment-smaller
loop-adjustment-smaller c =
    let state = c.loop-adjustment in
    let within = stretch_within source c.args.adjustments.now state.at_adjustment c.in-Some-Some.a
    (sym state.invariant.adjustment ∙ c.in-Some-Some.is-0) in
    omega (arith, within)

pub loop-adjustment-preserved-then-is_before : goal.loop-adjustment-preserved-then-is_before
loop-adjustment-preserved-then-is_before c =
    let state = c.loop-adjustment in
    let a = c.in-Some-Some.a in
    let o = c.in-Some-Some.o in
    let here : slice_get (stretches destination c.args.originals.now) state.at_original ≡ Some o =
    sym state.invariant.original ∙ c.in-Some-Some.is-1 in
    let at_a = stretch_index source c.args.adjustments.now state.at_adjustment a c.requires.adjustments
    (sym state.invariant.adjustment ∙ c.in-Some-Some.is-0) in
    let at_o = stretch_index destination c.args.originals.now state.at_original o c.requires.originals here in
    let done = state.tokens.items in
    let pushed = c.in_ok-push_pair.ensures.pushed in
    let few = length-pair done a o in
    record {
      adjustment = state.invariant.adjustment;
      original = c.stretch_at-original-then-is_before.ensures;
      in_adjustments = state.invariant.in_adjustments;
      in_originals = stretch_within destination c.args.originals.now state.at_original o here;
      so_far = rw pushed (next_original (stretches source c.args.adjustments.now) (stretches destination
          c.args.originals.now) state.at_adjustment state.at_original a o at_a at_o done _ state.invariant.so_far
          (sym c.is_before.ensures ∙ c.if-is_before.true));
      within =
          rw pushed
          (none-append overflows_column done (pair a o) state.invariant.within c.in_ok-push_pair.ensures.within);
      few = rw pushed (omega arith);
    }

pub loop-adjustment-preserved-then-is_before-2 : goal.loop-adjustment-preserved-then-is_before-2
loop-adjustment-preserved-then-is_before-2 c =
    let state = c.loop-adjustment in
    let a = c.in-Some-Some.a in
    let o = c.in-Some-Some.o in
    let here : slice_get (stretches source c.args.adjustments.now) state.at_adjustment ≡ Some a =
    sym state.invariant.adjustment ∙ c.in-Some-Some.is-0 in
    let at_a = stretch_index source c.args.adjustments.now state.at_adjustment a c.requires.adjustments here in
    let at_o = stretch_index destination c.args.originals.now state.at_original o c.requires.originals
    (sym state.invariant.original ∙ c.in-Some-Some.is-1) in
    let done = state.tokens.items in
    let pushed = c.in_ok-push_pair.ensures.pushed in
    let few = length-pair done a o in
    record {
      adjustment = c.stretch_at-adjustment-then-is_before-2.ensures;
      original = state.invariant.original;
      in_adjustments = stretch_within source c.args.adjustments.now state.at_adjustment a here;
      in_originals = state.invariant.in_originals;
      so_far = rw pushed (next_adjustment (stretches source c.args.adjustments.now) (stretches destination
          c.args.originals.now) state.at_adjustment state.at_original a o at_a at_o done _ state.invariant.so_far
          (sym c.is_before.ensures ∙ c.if-is_before.false));
      within =
          rw pushed
          (none-append overflows_column done (pair a o) state.invariant.within c.in_ok-push_pair.ensures.within);
      few = rw pushed (omega arith);
    }

pub loop-adjustment-preserved : goal.loop-adjustment-preserved
loop-adjustment-preserved c =
    let state = c.loop-adjustment in
    let a = c.in-Some-Some.a in
    let o = c.in-Some-Some.o in
    let here : slice_get (stretches source c.args.adjustments.now) state.at_adjustment ≡ Some a =
    sym state.invariant.adjustment ∙ c.in-Some-Some.is-0 in
    let here_too : slice_get (stretches destination c.args.originals.now) state.at_original ≡ Some o =
    sym state.invariant.original ∙ c.in-Some-Some.is-1 in
    let at_a = stretch_index source c.args.adjustments.now state.at_adjustment a c.requires.adjustments here in
    let at_o = stretch_index destination c.args.originals.now state.at_original o c.requires.originals here_too in
    let done = state.tokens.items in
    let pushed = c.in_ok-push_pair.ensures.pushed in
    let few = length-pair done a o in
    record {
      adjustment = c.stretch_at-adjustment-else-is_before-2.ensures;
      original = c.stretch_at-original-else-is_before-2.ensures;
      in_adjustments = stretch_within source c.args.adjustments.now state.at_adjustment a here;
      in_originals = stretch_within destination c.args.originals.now state.at_original o here_too;
      so_far = rw pushed (next_both (stretches source c.args.adjustments.now) (stretches destination
          c.args.originals.now) state.at_adjustment state.at_original a o at_a at_o done _ state.invariant.so_far
          (sym c.is_before.ensures ∙ c.if-is_before.false)
          (sym c.is_before-else-is_before.ensures ∙ c.if-is_before-2.false));
      within =
          rw pushed
          (none-append overflows_column done (pair a o) state.invariant.within c.in_ok-push_pair.ensures.within);
      few = rw pushed (omega arith);
    }

all_done : (c : goal.Joined-adjustment) → c.loop-adjustment.tokens.items
    ≡ composed_all (stretches source c.args.adjustments.now) (stretches destination c.args.originals.now)
all_done c =
    let state = c.loop-adjustment in
    walked_all (stretches source c.args.adjustments.now)
    (stretches destination c.args.originals.now) state.at_adjustment state.at_original
    state.tokens.items _ state.invariant.so_far
    (elim c.match-adjustment.branch [
      | in_default w ↦ inr (sym state.invariant.original ∙ w.in_default.is-1)
      | in_default-2 w ↦ inl (sym state.invariant.adjustment ∙ w.in_default.is-0)
    ])

pub returns-clause-pairs : goal.returns-clause-pairs
returns-clause-pairs c = all_done c

pub returns-clause-within : goal.returns-clause-within
returns-clause-within c =
    subst (λ tokens. list_any overflows_column tokens ≡ false) (all_done c) c.loop-adjustment.invariant.within
