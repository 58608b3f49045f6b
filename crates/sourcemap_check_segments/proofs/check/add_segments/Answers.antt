use Rattle.std.proofs.Common.{arith, pos, refl}
use Rattle.std.proofs.lemmas.Int.{ints}
use Rattle.sourcemap_check_segments.specs.Steps.{IsWithin}
use Rattle.sourcemap_check_segments.proofs.FindingLemmas.{PageSoFar-none, PageSoFar-more, PageSoFar-all}
use Rattle.sourcemap_check_segments.proofs.check.add_segments.Goals as goal

start_within : IsWithin 0 (pos 0)
start_within = record { low = omega (arith, ints); high = omega (arith, ints) }

pub loop-rest-init : goal.loop-rest-init
loop-rest-init c = record {
  within = record {
    column = start_within;
    source = start_within;
    line = start_within;
    source_column = start_within;
    name = start_within;
  };
  count = omega arith;
  number = omega arith;
  so_far = λ all reports. PageSoFar-none _ _ _ all c.args.mappings.now _ _ reports
      (record { source = refl; line = refl; source_column = refl; name = refl });
}

pub loop-rest-preserved : goal.loop-rest-preserved
loop-rest-preserved c = record {
  within = c.in_ok-sums.ensures.within;
  count = let left = rw c.in-Some.is at c.loop-rest.invariant.count in
      omega (arith, c.first_part.ensures.shorter, c.in_ok-sums.ensures.few);
  number = let left = rw c.in-Some.is at c.loop-rest.invariant.number in omega (arith, c.first_part.ensures.shorter);
  so_far = λ all reports.
      let so_far = rw (c.in-Some.is, c.first_part.ensures.split) at (c.loop-rest.invariant.so_far all reports) in
      let added = c.in_ok-sums.ensures.added so_far.findings so_far.before so_far.sums_to so_far.reports in
      PageSoFar-more _ _ _ all _ _ _ _ _ _ _ _ so_far added.0 added.1;
}

pub returns-clause-added : goal.returns-clause-added
returns-clause-added c = λ all reports.
    PageSoFar-all _ _ _ all _ _ _ _ (rw c.in_default.is at (c.loop-rest.invariant.so_far all reports))
