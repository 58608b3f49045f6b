use Rattle.std.proofs.Common.{◌≡◌, ◌==◌, length}
use Rattle.std.specs.List.{slice_split}
use Rattle.sourcemap_check_segments.specs.Segments.{semicolon}
use Rattle.sourcemap_check_order.proofs.RangeLemmas.{LinesFitSoFar}
use Rattle.sourcemap_check_order.proofs.ranges.text_fits.Given as goal

abbrev pub invariant-loop-line : goal.invariant-loop-line
invariant-loop-line l = record {
  number : l.number ≡ length l.yielded;
  so_far : LinesFitSoFar l.format l.counts (slice_split (λ b. b == semicolon) l.text) l.number l.fits;
}
