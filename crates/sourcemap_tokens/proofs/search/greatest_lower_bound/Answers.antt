use Rattle.std.proofs.Common.{arith, ◌≡◌, refl, sym, subst, ◌-◌, length, true}
use Rattle.std.specs.Ordering.{is_lt}
use Rattle.std.proofs.lemmas.Option.{slice_get_read}
use Rattle.sourcemap_tokens.proofs.SearchLemmas.{IsApart, apart_from_read, apart_at_end, bracket_closed, bracket-up}
use Rattle.sourcemap_tokens.proofs.SearchLemmas.{bracket-down, tested_less, tested_equal, closest-hit, closest-miss}
use Rattle.sourcemap_tokens.proofs.SearchLemmas.{closest-none, is_le-less}
use Rattle.sourcemap_tokens.proofs.search.greatest_lower_bound.Goals as goal
use Rattle.sourcemap_tokens.proofs.search.greatest_lower_bound.Goals.{then-low-slice+else-eq-2, else-low-slice}

pub loop-low-preserved-then-eq : goal.loop-low-preserved-then-eq
loop-low-preserved-then-eq g c = record {
  ordered = omega arith;
  within = c.loop-low.invariant.within;
  bracket = λ key_of gives.
      bracket-up key_of g.K.Ord.cmp c.args.slice.now c.args.key.now _ _ _ _ (c.loop-low.invariant.bracket key_of gives)
      (omega arith) c.index-slice-middle.is
      (tested_less key_of g.K.Ord.cmp _ _ _ _ _ _ (gives _ _ c.map.ensures) c.cmp.ensures c.eq.ensures c.if-eq.true);
}

pub loop-low-preserved : goal.loop-low-preserved
loop-low-preserved g c = record {
  ordered = omega arith;
  within = omega arith;
  bracket = λ key_of gives.
      bracket-down key_of g.K.Ord.cmp c.args.slice.now c.args.key.now _ _ _ _
      (c.loop-low.invariant.bracket key_of gives) (omega arith) c.index-slice-middle.is
      (tested_less key_of g.K.Ord.cmp _ _ _ _ _ _ (gives _ _ c.map.ensures) c.cmp.ensures c.eq.ensures c.if-eq.false);
}

pub returns-then-eq-2-clause-closest : goal.returns-then-eq-2-clause-closest
returns-then-eq-2-clause-closest g c key_of gives sorted =
    let bracket = bracket_closed key_of g.K.Ord.cmp c.args.slice.now c.args.key.now c.loop-low.low c.loop-low.high
    (c.loop-low.invariant.bracket key_of gives) (omega arith) in
    closest-hit g.met.K.Ord.total key_of c.args.slice.now c.args.key.now c.loop-low.low sorted bracket _
    (omega arith) c.index-slice-low.is
    (tested_equal key_of g.K.Ord.cmp _ _ _ _ _ _
    (gives _ _ c.map-then-low-slice.ensures) c.cmp-then-low-slice.ensures c.eq-then-low-slice.ensures c.if-eq-2.true)

pub returns-then-low-eq0-clause-closest : goal.returns-then-low-eq0-clause-closest
returns-then-low-eq0-clause-closest g c key_of gives sorted =
    let bracket = bracket_closed key_of g.K.Ord.cmp c.args.slice.now c.args.key.now c.loop-low.low c.loop-low.high
    (c.loop-low.invariant.bracket key_of gives) (omega arith) in
    let apart : IsApart key_of g.K.Ord.cmp c.args.slice.now c.args.key.now c.loop-low.low = elim c.if-low-slice.branch [
      | then-low-slice+else-eq-2 w ↦
          apart_from_read key_of g.K.Ord.cmp c.args.slice.now c.args.key.now c.loop-low.low _ w.index-slice-low.is
          (tested_equal key_of g.K.Ord.cmp _ _ _ _ _ _ (gives _ _ w.map-then-low-slice.ensures)
          w.cmp-then-low-slice.ensures w.eq-then-low-slice.ensures w.if-eq-2.false)
      | else-low-slice w ↦ apart_at_end key_of g.K.Ord.cmp c.args.slice.now c.args.key.now c.loop-low.low (omega arith)
    ] in
    closest-none g.met.K.Ord.total key_of c.args.slice.now c.args.key.now c.loop-low.low sorted bracket
    (omega arith) apart

pub returns-clause-own_index : goal.returns-clause-own_index
returns-clause-own_index g c = slice_get_read c.args.slice.now (length c.args.slice.now) (c.loop-low.low
    - 1) _ refl (omega arith) c.index-slice-low-2.is

pub returns-clause-closest : goal.returns-clause-closest
returns-clause-closest g c key_of gives sorted =
    let bracket = bracket_closed key_of g.K.Ord.cmp c.args.slice.now c.args.key.now c.loop-low.low c.loop-low.high
    (c.loop-low.invariant.bracket key_of gives) (omega arith) in
    let apart : IsApart key_of g.K.Ord.cmp c.args.slice.now c.args.key.now c.loop-low.low = elim c.if-low-slice.branch [
      | then-low-slice+else-eq-2 w ↦
          apart_from_read key_of g.K.Ord.cmp c.args.slice.now c.args.key.now c.loop-low.low _ w.index-slice-low.is
          (tested_equal key_of g.K.Ord.cmp _ _ _ _ _ _ (gives _ _ w.map-then-low-slice.ensures)
          w.cmp-then-low-slice.ensures w.eq-then-low-slice.ensures w.if-eq-2.false)
      | else-low-slice w ↦ apart_at_end key_of g.K.Ord.cmp c.args.slice.now c.args.key.now c.loop-low.low (omega arith)
    ] in
    closest-miss g.met.K.Ord.total key_of c.args.slice.now c.args.key.now c.loop-low.low sorted bracket _ (omega arith)
    (omega arith) c.index-slice-low-2.is apart

pub returns-clause-at_most : goal.returns-clause-at_most
returns-clause-at_most g c key_of gives =
    let less = (c.loop-low.invariant.bracket key_of gives).below c.index-slice-low-2.result (omega arith) in
    is_le-less _ (subst (λ y. is_lt (g.K.Ord.cmp (key_of y) c.args.key.now) ≡ true) (sym c.index-slice-low-2.is) less)
