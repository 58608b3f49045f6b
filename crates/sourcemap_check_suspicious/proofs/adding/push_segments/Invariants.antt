use Rattle.std.proofs.Common.{◌≡◌, ◌++◌, map, take}
use Rattle.sourcemap_check_suspicious.specs.Suspects.{segment_suspect}
use Rattle.sourcemap_check_suspicious.proofs.adding.push_segments.Given as goal

abbrev pub invariant-loop-place : goal.invariant-loop-place
invariant-loop-place l =
    l.first.items ≡ l.initial.first.items ++ map segment_suspect (take l.place-index l.places)
