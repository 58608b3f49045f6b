use Rattle.std.proofs.Common.{length, ◌-◌, ◌+◌}
use Rattle.sourcemap_references.proofs.LineLemmas.{IsPassed}
use Rattle.sourcemap_references.proofs.lines.first_lines.Given as goal

abbrev pub invariant-loop-least : goal.invariant-loop-least
invariant-loop-least l = IsPassed l.bytes l.start

abbrev pub decreases-loop-least : goal.decreases-loop-least
decreases-loop-least l = length l.bytes + 1 - l.start
