-- The parts of a line decoded so far.
use Rattle.std.proofs.Common.{length, List, Any}
use Rattle.sourcemap_mappings.specs.Segment.{Segment, parts_of}
use Rattle.sourcemap_hermes_scopes.specs.Offsets.{IsUnreadable}
use Rattle.sourcemap_hermes_scopes.specs.OffsetsSteps.{IsLastOffset}
use Rattle.std.proofs.Common.{[]}
use Rattle.sourcemap_hermes_scopes.proofs.OffsetsLemmas.{PartsSoFar}
use Rattle.sourcemap_hermes_scopes.proofs.offsets.add_parts.Given as goal

abbrev pub invariant-loop-read : goal.invariant-loop-read
invariant-loop-read l = record {
  so_far : (before : List Segment) → IsLastOffset before [] (record l.fn.last { column = 0 })
      → PartsSoFar before (parts_of l.text) (parts_of l.rest) l.initial.offsets.items l.offsets.items l.last;
  error : Any IsUnreadable (parts_of l.rest) → Any IsUnreadable (parts_of l.text);
}

abbrev pub decreases-loop-read : goal.decreases-loop-read
decreases-loop-read l = length l.rest
