use Rattle.std.proofs.Common.{length, arith}
use Rattle.sourcemap_bundle_split.proofs.TableLemmas.{all_below, few_ids}
use Rattle.sourcemap_bundle_split.proofs.id_numbers.IdNumbers.ids.Goals as goal

pub returns-clause-below : goal.returns-clause-below
returns-clause-below c =
    rw (c.as_slice.ensures.value, ← c.self.view_is)
    (all_below (length c.self.inside.numbers.items) c.self.inside.order.items c.self.invariant.below)

pub returns-clause-few : goal.returns-clause-few
returns-clause-few c =
    let few = few_ids
    (length c.self.inside.numbers.items) c.self.inside.order.items c.self.invariant.below c.self.invariant.distinct in
    rw c.as_slice.ensures.value (omega (arith, few, c.self.invariant.few))
