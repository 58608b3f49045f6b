use Rattle.std.proofs.Common.{length}
use Rattle.sourcemap_mappings.specs.SegmentSteps.{AreSteps}
use Rattle.sourcemap_vlq.specs.Vlq.{IsSound}
use Rattle.sourcemap_mappings.proofs.SegmentLemmas.{Lacks}
use Rattle.sourcemap_mappings.proofs.segment.any_part.Given as goal

abbrev pub invariant-loop-first : goal.invariant-loop-first
invariant-loop-first l = (sound : IsSound l.line l.rest) × Lacks sound.front × AreSteps sound.numbers l.read

abbrev pub decreases-loop-first : goal.decreases-loop-first
decreases-loop-first l = length l.rest
