use Rattle.std.proofs.Common.{◌≡◌, ◌≢◌, ◌∙◌, sym, ap, [], length, arith}
use Rattle.std.proofs.lemmas.List.{append-nil, nil_from_length}
use Rattle.std.proofs.lemmas.Bool.{eqb-true, eqb-false}
use Rattle.sourcemap_check_segments.specs.Segments.{segments_of}
use Rattle.sourcemap_check_segments.proofs.FindingLemmas.{LineSoFar-none, LineSoFar-more, LineSoFar-reports}
use Rattle.sourcemap_check_segments.proofs.FindingLemmas.{LineSoFar-sums}
use Rattle.sourcemap_check_segments.proofs.FindingLemmas.{segments_of-some, Reports-none}
use Rattle.sourcemap_check_segments.proofs.check.add_line.Goals as goal

pub loop-rest-init : goal.loop-rest-init
loop-rest-init c = record {
  within = c.at_line-sums.ensures.within;
  count = omega (arith, c.at_line-sums.ensures.count);
  index = omega arith;
  so_far = λ all before sums reports.
      LineSoFar-none _ _ _ _ _ before _ _ _ reports (c.at_line-sums.ensures.sums before sums);
}

pub loop-rest-preserved : goal.loop-rest-preserved
loop-rest-preserved c = record {
  within = c.after-sums.ensures.within;
  count = let left = rw c.in-Some.is at c.loop-rest.invariant.count in
      omega (arith, c.first_part.ensures.shorter, c.after-sums.ensures.count);
  index = let left = rw c.in-Some.is at c.loop-rest.invariant.index in omega (arith, c.first_part.ensures.shorter);
  so_far = λ all before sums reports.
      let so_far = rw (c.in-Some.is, c.first_part.ensures.split) at (c.loop-rest.invariant.so_far all before sums reports) in
      let is = rw c.as_bytes.ensures.value at c.read_segment-segment.ensures in
      let later = c.after-sums.ensures.sums before so_far.here _ so_far.sums_to is in
      LineSoFar-more _ _ _ _ all before _ _ _ _ _ _ _ _ so_far later
      (c.in_ok-add_segment.ensures.added so_far.findings before so_far.here _ later is so_far.reports);
}

pub returns-then-is_empty : goal.returns-then-is_empty
returns-then-is_empty c =
    let none : c.args.text.now ≡ [] = nil_from_length _ (eqb-true _ _ (sym c.is_empty.ensures ∙ c.if-is_empty.true)) in
    let segments : segments_of c.args.text.now ≡ [] = ap segments_of none in
    record {
      added = λ all before sums reports.
          (rw segments (rw (append-nil before) sums), rw segments (Reports-none _ all _ reports));
      within = c.requires.within;
      few = omega arith;
      memory = tt;
    }

pub returns : goal.returns
returns c =
    let some : c.args.text.now ≢ [] = λ e. eqb-false _ _ (sym c.is_empty.ensures ∙ c.if-is_empty.false) (ap length e) in
    let segments = segments_of-some c.args.text.now some in
    record {
      added = λ all before sums reports.
          let so_far = rw c.in_default.is at (c.loop-rest.invariant.so_far all before sums reports) in (
            rw segments (LineSoFar-sums _ _ _ _ all before _ _ _ _ so_far),
            rw segments (LineSoFar-reports _ _ _ _ all before _ _ _ _ so_far),
          );
      within = c.loop-rest.invariant.within;
      few = omega (arith, c.loop-rest.invariant.count);
      memory = tt;
    }
