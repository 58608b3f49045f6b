use Rattle.std.proofs.Common.{◌≤◌, slice_index, subst, sym, ◌∙◌, ap, max, arith}
use Rattle.std.specs.List.{fold}
use Rattle.std.proofs.lemmas.List.{take_all}
use Rattle.sourcemap_compiled_write.proofs.PackingLemmas.{below_width, le_greatest}
use Rattle.sourcemap_compiled_write.proofs.packing.width_of.Goals as goal

pub returns-clause-fit : goal.returns-clause-fit
returns-clause-fit c k =
    let xs = c.args.numbers.now in
    let all = c.loop-number.invariant.value ∙ ap (fold max 0) (take_all c.loop-number.number-index xs (omega arith)) in
    let most : slice_index xs k ≤ c.loop-number.greatest =
    subst (λ n. slice_index xs k ≤ n) (sym all) (le_greatest xs k) in
    below_width c.loop-number.greatest (slice_index xs k) c.loop-number.invariant.small most
