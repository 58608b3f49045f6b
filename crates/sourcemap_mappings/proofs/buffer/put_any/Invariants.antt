use Rattle.std.proofs.Common.{◌≡◌, ℕ, ◌+◌, ◌*◌, ◌^◌, ◌<◌, ◌≤◌, List, ◌++◌, length, take}
use Rattle.std.specs.List.{AllByRecursion}
use Rattle.sourcemap_vlq.specs.Vlq.{raw_of, HasContinuation}
use Rattle.sourcemap_mappings.specs.Buffer.{raw_difference}
use Rattle.sourcemap_mappings.proofs.buffer.put_any.Given as goal

abbrev pub invariant-loop-left : goal.invariant-loop-left
invariant-loop-left l = (part : List ℕ) × (take l.end l.buffer ≡ take l.at l.fn.buffer ++ part)
    × AllByRecursion HasContinuation part
    × (raw_difference l.number l.against ≡ raw_of part + 2 ^ (5 * length part) * l.left)
    × (0 < length part → 0 < l.left) × (l.end ≡ l.at + length part) × (length part ≤ 6)

abbrev pub decreases-loop-left : goal.decreases-loop-left
decreases-loop-left l = l.left
