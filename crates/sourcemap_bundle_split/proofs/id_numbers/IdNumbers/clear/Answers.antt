use Rattle.std.proofs.Common.{sym, subst, length, nat_eq}
use Rattle.std.specs.List.{IsDistinct}
use Rattle.sourcemap_bundle_split.specs.Ids.{AreBelow}
use Rattle.sourcemap_bundle_split.specs.Numbers.{Stand}
use Rattle.sourcemap_bundle_split.proofs.NumberLemmas.{nothing_below, nothing_distinct}
use Rattle.sourcemap_bundle_split.proofs.TableLemmas.{stand_none}
use Rattle.sourcemap_bundle_split.proofs.id_numbers.IdNumbers.clear.Goals as goal

pub invariant_of-self : goal.invariant_of-self
invariant_of-self c =
    let numbers = c.self.inside.numbers.items in
    record {
      few = c.self.invariant.few;
      stand = subst (Stand numbers) (sym c.clear.ensures.items) (stand_none numbers);
      below = subst (AreBelow (length numbers)) (sym c.clear.ensures.items) (nothing_below (length numbers));
      distinct = subst (IsDistinct nat_eq) (sym c.clear.ensures.items) nothing_distinct;
    }
