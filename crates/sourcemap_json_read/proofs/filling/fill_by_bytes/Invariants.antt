use Rattle.std.proofs.Common.{◌≡◌, ◌-◌, ◌≤◌, length, take}
use Rattle.sourcemap_json_read.specs.Strings.{IsReadUpTo}
use Rattle.sourcemap_json_read.proofs.filling.fill_by_bytes.Given as goal

abbrev pub invariant-loop-at : goal.invariant-loop-at
invariant-loop-at l =
    (length l.buffer ≡ length l.initial.buffer) × (l.from ≤ l.at) × (l.at ≤ length l.text) × (l.to ≤ length l.buffer)
    × IsReadUpTo (take l.start l.initial.buffer) l.text l.from (take l.to l.buffer) l.at

abbrev pub decreases-loop-at : goal.decreases-loop-at
decreases-loop-at l = length l.text - l.at
