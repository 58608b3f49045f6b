use Rattle.std.proofs.Common.{arith, lit<, rules}
use Rattle.std.proofs.lemmas.Iterator.Splits.{YieldsList-from_str_split}
use Rattle.std.proofs.lemmas.Iterator.Consumers.{YieldsList-turn, YieldsList-end}
use Rattle.std.proofs.lemmas.List.{length_push}
use Rattle.sourcemap_check_segments.specs.Segments.{semicolon}
use Rattle.sourcemap_check_order.proofs.RangeLemmas.{CountsSoFar-none, CountsSoFar-more, CountsSoFar-all}
use Rattle.sourcemap_check_order.proofs.ranges.segment_counts.Goals as goal

pub loop-line-init : goal.loop-line-init
loop-line-init c = CountsSoFar-none _ _ (search rules)

pub loop-line-preserved : goal.loop-line-preserved
loop-line-preserved c =
    let t = YieldsList-turn (YieldsList-from_str_split semicolon c.args.mappings.now (lit< tt) (cc) (cc) (cc))
    c.loop-line.yielded _ c.loop-line.yielded_by _ _ c.in-Some.line c.in-Some.is c.next.ensures.steps in
    let more = length_push c.loop-line.yielded c.in-Some.line in
    rw more
    (CountsSoFar-more _ _ c.in-Some.line.now _ _ _ c.loop-line.invariant t.0 t.1 c.segment_count.ensures (search rules))

pub returns-clause-counts : goal.returns-clause-counts
returns-clause-counts c =
    let t = YieldsList-end (YieldsList-from_str_split semicolon c.args.mappings.now (lit< tt) (cc) (cc) (cc))
    c.loop-line.yielded _ c.loop-line.yielded_by _ _ c.in-None.is c.next.ensures.steps in
    CountsSoFar-all _ _ _ c.loop-line.invariant (omega (arith, t.1))
