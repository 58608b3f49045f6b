use Rattle.std.proofs.Common.{◌++◌, ◌∷◌, ◌≡◌, ◌≢◌, ◌∙◌, sym, ap, [], length, arith, rules, FitsSigned, None}
use mir.Syntax.{w64, w128}
use Rattle.std.proofs.lemmas.Bool.{eqb-true, eqb-false}
use Rattle.std.proofs.lemmas.Int.{ints}
use Rattle.std.proofs.lemmas.List.{nil_from_length}
use Rattle.sourcemap_check_segments.specs.Segments.{segments_of}
use Rattle.sourcemap_check_segments.specs.Last.{greatest_from, columns_in}
use Rattle.sourcemap_check_segments.proofs.FindingLemmas.{ColumnsSoFar-none, ColumnsSoFar-more, ColumnsSoFar-all}
use Rattle.sourcemap_check_segments.proofs.FindingLemmas.{segments_of-some}
use Rattle.sourcemap_check_segments.proofs.SegmentLemmas.{next_sum, within_same}
use Rattle.sourcemap_check_segments.proofs.last.last_column.Goals as goal

pub loop-rest-init : goal.loop-rest-init
loop-rest-init c = record {
  within = record { low = omega (arith, ints); high = omega (arith, ints) };
  count = omega arith;
  so_far = ColumnsSoFar-none _;
}

pub loop-rest-preserved : goal.loop-rest-preserved
loop-rest-preserved c =
    let number : FitsSigned w64 c.read_segment-segment.result.column = search rules in
    let new : FitsSigned w128 c.added-column.result = search rules in
    let so_far = rw (c.in-Some.is, c.first_part.ensures.split) at c.loop-rest.invariant.so_far in
    let is = rw c.as_bytes.ensures.value at c.read_segment-segment.ensures in
    let sum_is = next_sum so_far.here _ _ _ _ number new c.added-column.ensures.sum so_far.sum_is is.column in
    record {
      within = within_same _ _ new c.added-column.ensures.within;
      count = let left = rw c.in-Some.is at c.loop-rest.invariant.count in
          omega (arith, c.first_part.ensures.shorter);
      so_far = ColumnsSoFar-more _ _ _ _ _ _ _ so_far sum_is (c.further-best.ensures
          (so_far.here ++ c.first_part.result.0.now ∷ []) c.first_part.result.0.now is sum_is);
    }

pub returns-then-is_empty : goal.returns-then-is_empty
returns-then-is_empty c =
    let none : c.args.text.now ≡ [] = nil_from_length _ (eqb-true _ _ (sym c.is_empty.ensures ∙ c.if-is_empty.true)) in
    sym (ap (λ text. greatest_from None (columns_in [] (segments_of text))) none)

pub returns : goal.returns
returns c =
    let some : c.args.text.now ≢ [] = λ e. eqb-false _ _ (sym c.is_empty.ensures ∙ c.if-is_empty.false) (ap length e) in
    ColumnsSoFar-all _ _ _ (rw c.in_default.is at c.loop-rest.invariant.so_far)
    ∙ sym (ap (λ segments. greatest_from None (columns_in [] segments)) (segments_of-some c.args.text.now some))
