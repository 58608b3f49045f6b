use Rattle.std.proofs.Common.{◌≡◌, ◌==◌, List, length}
use Rattle.std.specs.List.{slice_split}
use Rattle.sourcemap_check_segments.specs.Segments.{comma}
use Rattle.sourcemap_check_order.specs.declared.order.SegmentPlace.{SegmentPlace}
use Rattle.sourcemap_check_order.specs.Order.{AreSegmentPlaces}
use Rattle.sourcemap_check_order.proofs.PlaceLemmas.{LineSoFar}
use Rattle.sourcemap_check_order.proofs.order.SegmentPlaces.add_line.Given as goal

abbrev pub invariant-loop-segment : goal.invariant-loop-segment
invariant-loop-segment l = record {
  index : l.index ≡ length l.yielded;
  so_far : (all : List SegmentPlace) → AreSegmentPlaces l.most all l.initial.self
      → LineSoFar l.most all l.line (slice_split (λ b. b == comma) l.text) l.index l.self;
}
