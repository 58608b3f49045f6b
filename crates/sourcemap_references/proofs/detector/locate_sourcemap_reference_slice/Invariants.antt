use Rattle.std.proofs.Common.{◌≡◌, length}
use Rattle.sourcemap_references.specs.Reference.{first_reference}
use Rattle.sourcemap_references.proofs.detector.locate_sourcemap_reference_slice.Given as goal

abbrev pub invariant-loop-line : goal.invariant-loop-line
invariant-loop-line l = first_reference l.bytes ≡ first_reference l.rest

abbrev pub decreases-loop-line : goal.decreases-loop-line
decreases-loop-line l = length l.rest
