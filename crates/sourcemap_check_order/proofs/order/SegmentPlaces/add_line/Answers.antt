use Rattle.std.proofs.Common.{◌==◌, arith, lit<, rules}
use Rattle.std.proofs.lemmas.Iterator.Splits.{YieldsList-from_str_split}
use Rattle.std.proofs.lemmas.Iterator.Consumers.{YieldsList-turn, YieldsList-end}
use Rattle.std.proofs.lemmas.List.{length_push}
use Rattle.std.proofs.lemmas.List.Splits.{length-slice_split}
use Rattle.std.proofs.lemmas.List.Sums.{count_by-le-length}
use Rattle.sourcemap_check_segments.specs.Segments.{comma}
use Rattle.sourcemap_check_order.proofs.PlaceLemmas.{LineSoFar-none, LineSoFar-more, LineSoFar-all}
use Rattle.sourcemap_check_order.proofs.order.SegmentPlaces.add_line.Goals as goal

pub loop-segment-init : goal.loop-segment-init
loop-segment-init c = record { index = search rules; so_far = λ all h. LineSoFar-none _ _ _ _ _ h }

pub overflow_add-index : goal.overflow_add-index
overflow_add-index c =
    let t = YieldsList-turn (YieldsList-from_str_split comma c.args.text.now (lit< tt) (cc) (cc) (cc))
    c.loop-segment.yielded _ c.loop-segment.yielded_by _ _ c.in-Some.segment c.in-Some.is c.next.ensures.steps in
    let n = c.loop-segment.invariant.index in
    omega (
      arith,
      t.0,
      n,
      length-slice_split (λ b. b == comma) c.args.text.now,
      count_by-le-length (λ b. b == comma) c.args.text.now,
    )

pub loop-segment-preserved : goal.loop-segment-preserved
loop-segment-preserved c =
    let t = YieldsList-turn (YieldsList-from_str_split comma c.args.text.now (lit< tt) (cc) (cc) (cc))
    c.loop-segment.yielded _ c.loop-segment.yielded_by _ _ c.in-Some.segment c.in-Some.is c.next.ensures.steps in
    let n = c.loop-segment.invariant.index in
    record {
      index = (let more = length_push c.loop-segment.yielded c.in-Some.segment in omega (arith, n, more));
      so_far = λ all h. let so_far = c.loop-segment.invariant.so_far all h in
          LineSoFar-more _ all _ _ _ c.in-Some.segment.now _ _ _ so_far (rw n t.0) (rw n t.1) (search rules)
          (c.in_ok-add_if.ensures.added so_far.found so_far.places_are);
    }

pub returns : goal.returns
returns c =
    let t = YieldsList-end (YieldsList-from_str_split comma c.args.text.now (lit< tt) (cc) (cc) (cc))
    c.loop-segment.yielded _ c.loop-segment.yielded_by _ _ c.in-None.is c.next.ensures.steps in
    let n = c.loop-segment.invariant.index in
    record {
      added = λ all h. LineSoFar-all _ all _ c.args.text.now _ _ (c.loop-segment.invariant.so_far all h)
          (omega (arith, t.1, n));
      memory = tt;
    }
