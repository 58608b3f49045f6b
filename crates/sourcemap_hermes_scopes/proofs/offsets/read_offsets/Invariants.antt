-- The lines decoded so far.
use Rattle.std.proofs.Common.{length, ◌+◌, Any}
use Rattle.std.specs.Option.{option_map_or}
use Rattle.sourcemap_mappings.specs.Segment.{parts_of}
use Rattle.sourcemap_mappings.specs.Read.{lines_of}
use Rattle.sourcemap_mappings.specs.ReadSteps.{lines_left}
use Rattle.sourcemap_hermes_scopes.specs.Offsets.{IsUnreadable}
use Rattle.sourcemap_hermes_scopes.proofs.OffsetsLemmas.{LinesSoFar}
use Rattle.sourcemap_hermes_scopes.proofs.offsets.read_offsets.Given as goal

abbrev pub invariant-loop-lines : goal.invariant-loop-lines
invariant-loop-lines l = record {
  so_far : LinesSoFar (lines_of l.fn.text) (lines_left l.lines) l.offsets.items l.last;
  error : Any (λ line. Any IsUnreadable (parts_of line)) (lines_left l.lines)
      → Any (λ line. Any IsUnreadable (parts_of line)) (lines_of l.fn.text);
}

abbrev pub decreases-loop-lines : goal.decreases-loop-lines
decreases-loop-lines l = option_map_or (λ text. length text.now + 1) l.lines 0
