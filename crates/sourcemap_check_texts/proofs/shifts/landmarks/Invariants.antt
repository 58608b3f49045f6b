use Rattle.std.proofs.Common.{◌-◌, length}
use Rattle.std.specs.Option.{option_copied}
use Rattle.sourcemap_check_texts.proofs.ShiftLemmas.{LandmarksSoFar}
use Rattle.sourcemap_check_texts.proofs.shifts.landmarks.Given as goal

abbrev pub invariant-loop-token : goal.invariant-loop-token
invariant-loop-token l = LandmarksSoFar 10000 (option_copied l.generated) l.map (option_copied l.files) l.index l.found.items

abbrev pub decreases-loop-token : goal.decreases-loop-token
decreases-loop-token l = length l.map.tokens - l.index
