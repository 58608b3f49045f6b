use Rattle.std.proofs.Common.{◌≡◌, ◌+◌, ◌-◌, ◌≤◌, length, take, map}
use Rattle.std.specs.Simd.Lanes.{chunk, mask_l}
use Rattle.sourcemap_json_read.specs.Runs.{is_stop}
use Rattle.sourcemap_json_read.specs.Strings.{IsReadUpTo}
use Rattle.sourcemap_json_read.proofs.filling.fill_block.Given as goal

-- what is decoded so far, and which bytes of the block's rest are stops
abbrev pub invariant-loop-left : goal.invariant-loop-left
invariant-loop-left l =
    (length l.buffer ≡ length l.initial.buffer) × (l.from ≤ l.at) × (l.at ≤ l.end + 1)
    × (l.to + l.from ≤ l.start + l.at)
    × (l.left ≡ mask_l (map is_stop (chunk l.at (l.end - l.at) l.text)))
    × IsReadUpTo (take l.start l.initial.buffer) l.text l.from (take l.to l.buffer) l.at

abbrev pub decreases-loop-left : goal.decreases-loop-left
decreases-loop-left l = l.end + 2 - l.at
