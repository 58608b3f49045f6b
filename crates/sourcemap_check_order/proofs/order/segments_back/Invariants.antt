use Rattle.std.proofs.Common.{◌≡◌, ◌==◌, length}
use Rattle.std.specs.List.{slice_split}
use Rattle.sourcemap_check_segments.specs.Segments.{semicolon}
use Rattle.sourcemap_check_order.proofs.PlaceLemmas.{PageSoFar}
use Rattle.sourcemap_check_order.proofs.order.segments_back.Given as goal

abbrev pub invariant-loop-line : goal.invariant-loop-line
invariant-loop-line l = record {
  number : l.number ≡ length l.yielded;
  so_far : PageSoFar l.most (slice_split (λ b. b == semicolon) l.mappings) l.number l.places;
}
