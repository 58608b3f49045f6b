use Rattle.std.proofs.Common.{◌==◌, length}
use Rattle.std.specs.List.{slice_split}
use Rattle.sourcemap_check_segments.specs.Segments.{semicolon}
use Rattle.sourcemap_check_order.proofs.RangeLemmas.{CountsSoFar}
use Rattle.sourcemap_check_order.proofs.ranges.segment_counts.Given as goal

abbrev pub invariant-loop-line : goal.invariant-loop-line
invariant-loop-line l = CountsSoFar (slice_split (λ b. b == semicolon) l.mappings) (length l.yielded) l.counts.items
