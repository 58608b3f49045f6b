use Rattle.std.proofs.Common.{◌≡◌, ◌-◌, length, Some}
use Rattle.std.specs.Prelude.{IfSome, slice_get}
use Rattle.sourcemap_source_views.specs.Lines.{line_bodies}
use Rattle.sourcemap_check_texts.proofs.GeneratedLemmas.{PositionsSoFar}
use Rattle.sourcemap_check_texts.proofs.generated.doubtful_positions.Given as goal

abbrev pub invariant-loop-token : goal.invariant-loop-token
invariant-loop-token l = record {
  so_far : PositionsSoFar l.most l.doubt l.generated l.map l.index l.places;
  spot : IfSome l.spot (λ s. slice_get (line_bodies l.generated) s.number ≡ Some s.line.now);
}

abbrev pub decreases-loop-token : goal.decreases-loop-token
decreases-loop-token l = length l.map.tokens - l.index
