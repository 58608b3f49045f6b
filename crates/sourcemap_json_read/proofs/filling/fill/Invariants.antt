use Rattle.std.proofs.Common.{◌≡◌, ◌+◌, ◌-◌, ◌≤◌, length, map, take}
use Rattle.std.specs.Simd.Lanes.{chunk, mask_l}
use Rattle.sourcemap_json_read.specs.Runs.{is_stop}
use Rattle.sourcemap_json_read.specs.Strings.{IsReadUpTo}
use Rattle.sourcemap_json_read.proofs.filling.fill.Given as goal

-- what is decoded so far, and which bytes of the rest of the block are stops
abbrev pub invariant-loop-begin : goal.invariant-loop-begin
invariant-loop-begin l =
    (length l.buffer ≡ length l.initial.buffer) × (l.begin ≤ l.at) × (l.at ≤ l.begin + 1) × (l.from ≤ l.at)
    × (l.at ≤ length l.text) × (l.to + 4 ≤ length l.buffer)
    × (l.stops ≡ mask_l (map is_stop (chunk l.at (l.begin + 64 - l.at) l.text)))
    × IsReadUpTo (take l.start l.initial.buffer) l.text l.from (take l.to l.buffer) l.at

abbrev pub decreases-loop-begin : goal.decreases-loop-begin
decreases-loop-begin l = length l.text - l.begin
