use Rattle.std.proofs.Common.{◌-◌, ◌≤◌, length, take}
use Rattle.sourcemap_json_write.specs.Quoting.{IsPutUpTo}
use Rattle.sourcemap_json_write.proofs.quoting.fill.Given as goal

abbrev pub invariant-loop-at : goal.invariant-loop-at
invariant-loop-at l =
    (l.to ≤ length l.buffer) × (l.at ≤ length l.text) × (l.from ≤ l.at)
    × IsPutUpTo (take l.start l.fn.buffer) l.text l.from (take l.to l.buffer) l.at

abbrev pub decreases-loop-at : goal.decreases-loop-at
decreases-loop-at l = length l.text - l.at
