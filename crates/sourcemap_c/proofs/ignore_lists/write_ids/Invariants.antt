use Rattle.std.proofs.Common.{◌≡◌, ◌≤◌, ◌-◌, ◌++◌, ℕ, List, drop, length}
use Rattle.sourcemap_c.proofs.ignore_lists.write_ids.Given as goal

-- the ids `done` are written
abbrev pub invariant-loop-count : goal.invariant-loop-count
invariant-loop-count l =
    (done : List ℕ) × (l.initial.left ≡ done ++ l.left) × (length done ≡ l.count)
    × (l.ids ≡ done ++ drop l.count l.initial.ids) × (l.count ≤ length l.initial.ids)

abbrev pub decreases-loop-count : goal.decreases-loop-count
decreases-loop-count l = length l.ids - l.count
