use Rattle.sourcemap_check_texts.specs.Shifts.{landmark_values}
use Rattle.sourcemap_check_texts.proofs.ShiftLemmas.{BestSoFar}
use Rattle.sourcemap_check_texts.proofs.shifts.best_matches.Given as goal

abbrev pub invariant-loop-index : goal.invariant-loop-index
invariant-loop-index l = BestSoFar (landmark_values l.landmarks) l.index l.best
