use Rattle.std.proofs.Common.{◌-◌, ◌≤◌, [], length, take}
use Rattle.sourcemap_json_read.specs.Strings.{IsReadUpTo}
use Rattle.sourcemap_json_read.proofs.strings.unescape.Given as goal

abbrev pub invariant-loop-buffer : goal.invariant-loop-buffer
invariant-loop-buffer l = (l.to ≤ length l.buffer.items) × (l.at ≤ length l.text)
    × IsReadUpTo [] l.text l.start (take l.to l.buffer.items) l.at

abbrev pub decreases-loop-buffer : goal.decreases-loop-buffer
decreases-loop-buffer l = length l.text - l.at
