use Rattle.std.proofs.Common.{length, ◌+◌, ◌≤◌}
use Rattle.sourcemap_mappings.specs.Segment.{Segment, parts_of}
use Rattle.sourcemap_mappings.specs.SegmentSteps.{AreTextSums, counts_of}
use Rattle.sourcemap_mappings.specs.ReadSteps.{AddsOnLine, AreInOrderTo}
use Rattle.sourcemap_mappings.proofs.ReadLemmas.{PartsSoFar}
use Rattle.std.proofs.Common.{List}
use Rattle.sourcemap_mappings.proofs.read.add_parts.Given as goal

abbrev pub invariant-loop-read : goal.invariant-loop-read
invariant-loop-read l = record {
  index_bound : l.index + length l.rest ≤ length l.text;
  so_far : (before : List Segment) → AreTextSums before l.fn.sums
      → PartsSoFar (counts_of l.limits) l.line l.bits before (parts_of l.text) l.index
      (parts_of l.rest) l.initial.tokens.items l.tokens.items l.sums;
  order : AreInOrderTo l.line (record l.fn.sums { column = 0 }) l.initial.tokens.items
      → AreInOrderTo l.line l.sums l.tokens.items;
  on_line : AddsOnLine l.line l.initial.tokens.items l.tokens.items;
}

abbrev pub decreases-loop-read : goal.decreases-loop-read
decreases-loop-read l = length l.rest
