use Rattle.std.proofs.Common.{◌==◌, arith, lit<, rules}
use Rattle.std.proofs.lemmas.Iterator.Splits.{YieldsList-from_str_split}
use Rattle.std.proofs.lemmas.Iterator.Consumers.{YieldsList-turn, YieldsList-end}
use Rattle.std.proofs.lemmas.List.{length_push}
use Rattle.std.proofs.lemmas.List.Splits.{length-slice_split}
use Rattle.std.proofs.lemmas.List.Sums.{count_by-le-length}
use Rattle.sourcemap_check_segments.specs.Segments.{semicolon}
use Rattle.sourcemap_check_order.proofs.PlaceLemmas.{SegmentPlaces-none, PageSoFar-none, PageSoFar-more, PageSoFar-all}
use Rattle.sourcemap_check_order.proofs.order.segments_back.Goals as goal

pub loop-line-init : goal.loop-line-init
loop-line-init c = record {
  number = search rules;
  so_far = PageSoFar-none _ _ _ (SegmentPlaces-none _ _ (search rules) (search rules));
}

pub overflow_add-number : goal.overflow_add-number
overflow_add-number c =
    let t = YieldsList-turn (YieldsList-from_str_split semicolon c.args.mappings.now (lit< tt) (cc) (cc) (cc))
    c.loop-line.yielded _ c.loop-line.yielded_by _ _ c.in-Some.line c.in-Some.is c.next.ensures.steps in
    let n = c.loop-line.invariant.number in
    omega (
      arith,
      t.0,
      n,
      length-slice_split (λ b. b == semicolon) c.args.mappings.now,
      count_by-le-length (λ b. b == semicolon) c.args.mappings.now,
    )

pub loop-line-preserved : goal.loop-line-preserved
loop-line-preserved c =
    let t = YieldsList-turn (YieldsList-from_str_split semicolon c.args.mappings.now (lit< tt) (cc) (cc) (cc))
    c.loop-line.yielded _ c.loop-line.yielded_by _ _ c.in-Some.line c.in-Some.is c.next.ensures.steps in
    let n = c.loop-line.invariant.number in
    record {
      number = (let more = length_push c.loop-line.yielded c.in-Some.line in omega (arith, n, more));
      so_far = let so_far = c.loop-line.invariant.so_far in
          PageSoFar-more _ _ _ c.in-Some.line.now _ _ so_far (rw n t.0) (rw n t.1)
          (c.in_ok-add_line.ensures.added so_far.found so_far.places_are);
    }

pub returns : goal.returns
returns c =
    let t = YieldsList-end (YieldsList-from_str_split semicolon c.args.mappings.now (lit< tt) (cc) (cc) (cc))
    c.loop-line.yielded _ c.loop-line.yielded_by _ _ c.in-None.is c.next.ensures.steps in
    let n = c.loop-line.invariant.number in
    record { places = PageSoFar-all _ _ _ _ c.loop-line.invariant.so_far (omega (arith, t.1, n)); memory = tt }
