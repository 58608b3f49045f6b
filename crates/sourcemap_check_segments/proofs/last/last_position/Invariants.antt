use Rattle.std.proofs.Common.{◌≡◌, ◌+◌, ◌≤◌, length, map}
use Rattle.sourcemap_check_segments.specs.Segments.{semicolon, segments_of}
use Rattle.sourcemap_check_segments.specs.Last.{last_from, last_position}
use Rattle.sourcemap_check_segments.specs.Steps.{parts_left, bytes_left}
use Rattle.sourcemap_check_segments.proofs.last.last_position.Given as goal

abbrev pub invariant-loop-rest : goal.invariant-loop-rest
invariant-loop-rest l = record {
  number : l.number + bytes_left l.rest ≤ length l.mappings + 1;
  so_far : last_from l.best l.number (map segments_of (parts_left semicolon l.rest)) ≡ last_position l.mappings;
}

abbrev pub decreases-loop-rest : goal.decreases-loop-rest
decreases-loop-rest l = bytes_left l.rest
