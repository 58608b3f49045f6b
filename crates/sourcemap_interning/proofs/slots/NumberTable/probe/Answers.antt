use Rattle.std.proofs.Common.{◌≡◌, refl, ap, subst, ◌∙◌, ◌+◌, ◌<◌, Some, length, slice_get, arith, inl, inr}
use Rattle.sourcemap_interning.specs.Slots.{ArePassed}
use Rattle.sourcemap_interning.proofs.ItemLemmas.{below_or_last, slice_get-indexed}
use Rattle.sourcemap_interning.proofs.slots.NumberTable.probe.Goals as goal

pub returns-then-slot : goal.returns-then-slot
returns-then-slot g c =
    let slots = c.args.self.now.slots.items in
    let at = c.start_of-start.result + c.loop-step.step in
    let within : at < length slots =
    omega (arith, c.requires, c.start_of-start.ensures.within, c.loop-step-test.true) in
    let read : slice_get slots at ≡ Some c.index-slot.result.now =
    slice_get-indexed slots at c.index-slot.result.now within c.index-slot.ensures in
    let start = c.start_of-start.ensures.start in (
      c.loop-step.step,
      c.loop-step-test.true,
      subst (λ s. ArePassed slots c.args.hash s c.loop-step.step) start c.loop-step.invariant,
      ap (λ s. s + c.loop-step.step) start,
      c.index-slot.result.now,
      subst (λ s. slice_get slots (s + c.loop-step.step) ≡ Some c.index-slot.result.now) start read,
      c.if-slot.true,
    )

pub returns-then-slot-hash : goal.returns-then-slot-hash
returns-then-slot-hash g c =
    let slots = c.args.self.now.slots.items in
    let at = c.start_of-start.result + c.loop-step.step in
    let within : at < length slots =
    omega (arith, c.requires, c.start_of-start.ensures.within, c.loop-step-test.true) in
    let read : slice_get slots at ≡ Some c.index-slot.result.now =
    slice_get-indexed slots at c.index-slot.result.now within c.index-slot.ensures in
    let start = c.start_of-start.ensures.start in (
      c.loop-step.step,
      c.loop-step-test.true,
      subst (λ s. ArePassed slots c.args.hash s c.loop-step.step) start c.loop-step.invariant,
      c.if-slot.false,
      c.index-slot.result.now,
      subst (λ s. slice_get slots (s + c.loop-step.step) ≡ Some c.index-slot.result.now) start read,
      refl,
      c.if-slot-hash.true,
    )

pub loop-step-preserved : goal.loop-step-preserved
loop-step-preserved g c k below =
    let slots = c.args.self.now.slots.items in
    let at = c.start_of-start.result + c.loop-step.step in
    let within : at < length slots =
    omega (arith, c.requires, c.start_of-start.ensures.within, c.loop-step-test.true) in
    let read : slice_get slots at ≡ Some c.index-slot.result.now =
    slice_get-indexed slots at c.index-slot.result.now within c.index-slot.ensures in
    elim (below_or_last k c.loop-step.step below) [
      | inl before ↦ c.loop-step.invariant k before
      | inr here ↦ (
        c.index-slot.result.now,
        ap (λ j. slice_get slots (c.start_of-start.result + j)) here ∙ read,
        c.if-slot.false,
        c.if-slot-hash.false,
      )
    ]

pub returns : goal.returns
returns g c k below =
    let slots = c.args.self.now.slots.items in
    let passed =
    subst (λ s. ArePassed slots c.args.hash s c.loop-step.step) c.start_of-start.ensures.start c.loop-step.invariant in
    passed k (omega (arith, below, c.loop-step-test.false))
