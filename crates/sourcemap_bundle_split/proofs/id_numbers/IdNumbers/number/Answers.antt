use Rattle.std.proofs.Common.{◌≡◌, ◌<◌, ◌++◌, ◌∷◌, [], sym, subst, length, set, nat_eq}
use Rattle.std.proofs.Common.{None, arith, refl}
use Rattle.std.specs.List.{IsDistinct}
use Rattle.std.proofs.lemmas.List.{length-set}
use Rattle.sourcemap_bundle_split.specs.Ids.{AreBelow}
use Rattle.sourcemap_bundle_split.specs.ModuleMap.{number_of}
use Rattle.sourcemap_bundle_split.specs.Numbers.{Stand}
use Rattle.sourcemap_bundle_split.proofs.TableLemmas.{below_push, distinct_push, few_ids, number_none_read, number_read}
use Rattle.sourcemap_bundle_split.proofs.TableLemmas.{number_of-new, number_past, stand_push, with_id-known}
use Rattle.sourcemap_bundle_split.proofs.TableLemmas.{with_id-new}
use Rattle.sourcemap_bundle_split.proofs.id_numbers.IdNumbers.number.Goals as goal

pub returns-then-slot-len-clause-number : goal.returns-then-slot-len-clause-number
returns-then-slot-len-clause-number c =
    let numbers = c.self.inside.numbers in
    let none : number_of c.self.inside.order.items c.args.id ≡ None =
    number_past (length numbers.items) c.self.inside.order.items c.args.id c.self.invariant.below
    (omega (arith, c.if-slot-len.true, c.len.ensures, numbers.ok.0)) in
    rw (← c.self.view_is, none) refl

-- if `order` has the id at index `numbers[slot]`, then the id already has the number `numbers[slot]`

pub returns-then-is_at-clause-ids : goal.returns-then-is_at-clause-ids
returns-then-is_at-clause-ids c =
    let numbers = c.self.inside.numbers.items in
    let order = c.self.inside.order.items in
    let known = number_read numbers order _ c.args.id _ c.self.invariant.stand c.deref.ensures.value c.is_at.ensures
    c.if-is_at.true in
    rw (← c.self.view_is, with_id-known (length numbers) order c.args.id c.index-number.result.now known) refl

pub returns-then-is_at-clause-number : goal.returns-then-is_at-clause-number
returns-then-is_at-clause-number c =
    let numbers = c.self.inside.numbers.items in
    let order = c.self.inside.order.items in
    let known = number_read numbers order _ c.args.id _ c.self.invariant.stand c.deref.ensures.value c.is_at.ensures
    c.if-is_at.true in
    rw (← c.self.view_is, known) refl

-- a new id gets the next number

pub overflow_cast-number-2 : goal.overflow_cast-number-2
overflow_cast-number-2 c =
    let few = few_ids
    (length c.self.inside.numbers.items) c.self.inside.order.items c.self.invariant.below c.self.invariant.distinct in
    omega (arith, few, c.self.invariant.few, c.len-number.ensures, c.self.inside.order.ok.0)

pub invariant_of-self-2 : goal.invariant_of-self-2
invariant_of-self-2 c =
    let numbers = c.self.inside.numbers.items in
    let order = c.self.inside.order.items in
    let id = c.args.id in
    let inside : id < length numbers = omega (arith, c.if-slot-len.false, c.len.ensures, c.self.inside.numbers.ok.0) in
    let none = number_none_read numbers order _ id _ _ c.self.invariant.stand inside c.index-number.ensures
    c.deref.ensures.value c.is_at.ensures c.if-is_at.false in
    let next : c.len-number.result ≡ length order = omega (arith, c.len-number.ensures, c.self.inside.order.ok.0) in
    record {
      few = omega (arith, c.self.invariant.few, length-set numbers id c.len-number.result);
      stand = subst (Stand (set numbers id c.len-number.result)) (sym c.in_ok-push.ensures.items)
          (subst (λ n. Stand (set numbers id n) (order ++ id ∷ [])) (sym next)
          (stand_push numbers order id c.self.invariant.stand inside none));
      below = subst (λ n. AreBelow n c.push.new.self.items) (sym (length-set numbers id c.len-number.result))
          (subst (AreBelow (length numbers)) (sym c.in_ok-push.ensures.items)
          (below_push (length numbers) order id c.self.invariant.below inside none));
      distinct = subst (IsDistinct nat_eq) (sym c.in_ok-push.ensures.items) (distinct_push
          (length numbers) order id c.self.invariant.distinct inside none);
    }

pub returns-clause-ids : goal.returns-clause-ids
returns-clause-ids c =
    let numbers = c.self.inside.numbers.items in
    let order = c.self.inside.order.items in
    let id = c.args.id in
    let inside : id < length numbers = omega (arith, c.if-slot-len.false, c.len.ensures, c.self.inside.numbers.ok.0) in
    let none = number_none_read numbers order _ id _ _ c.self.invariant.stand inside c.index-number.ensures
    c.deref.ensures.value c.is_at.ensures c.if-is_at.false in
    rw (
      ← c.self.view_is,
      length-set numbers id c.len-number.result,
      c.in_ok-push.ensures.items,
      with_id-new (length numbers) order id inside none,
    ) refl

pub returns-clause-number : goal.returns-clause-number
returns-clause-number c =
    let numbers = c.self.inside.numbers.items in
    let order = c.self.inside.order.items in
    let id = c.args.id in
    let inside : id < length numbers = omega (arith, c.if-slot-len.false, c.len.ensures, c.self.inside.numbers.ok.0) in
    let none = number_none_read numbers order _ id _ _ c.self.invariant.stand inside c.index-number.ensures
    c.deref.ensures.value c.is_at.ensures c.if-is_at.false in
    let next : c.len-number.result ≡ length order = omega (arith, c.len-number.ensures, c.self.inside.order.ok.0) in
    rw (c.in_ok-push.ensures.items, number_of-new order id none) next
