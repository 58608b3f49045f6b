use Rattle.std.proofs.Common.{sym, subst, length, nat_eq, arith}
use Rattle.std.specs.List.{IsDistinct}
use Rattle.sourcemap_bundle_split.specs.Ids.{AreBelow}
use Rattle.sourcemap_bundle_split.specs.Numbers.{Stand}
use Rattle.sourcemap_bundle_split.proofs.NumberLemmas.{nothing_below, nothing_distinct}
use Rattle.sourcemap_bundle_split.proofs.TableLemmas.{stand_none}
use Rattle.sourcemap_bundle_split.proofs.id_numbers.IdNumbers.new.Goals as goal

pub invariant_of-result : goal.invariant_of-result
invariant_of-result c =
    let numbers = c.in_ok-vec.field-0.items in
    record {
      few = omega (arith, c.requires, c.in_ok-vec.ensures.len, c.in_ok-vec.field-0.ok.0);
      stand = subst (Stand numbers) (sym c.new.ensures.items) (stand_none numbers);
      below = subst (AreBelow (length numbers)) (sym c.new.ensures.items) (nothing_below (length numbers));
      distinct = subst (IsDistinct nat_eq) (sym c.new.ensures.items) nothing_distinct;
    }
