use Rattle.std.proofs.Common.{◌≡◌, ◌-◌, ◌≤◌, ◌++◌, replicate, None, vec_len}
use Rattle.sourcemap_map_parts.proofs.fitting.fit.Given as goal

-- the list is the initial list with only `None` items appended
abbrev pub invariant-loop-items : goal.invariant-loop-items
invariant-loop-items g l =
    (l.len ≤ vec_len l.items)
    × (l.items.items ≡ l.initial.items.items ++ replicate (vec_len l.items - l.len) None)

abbrev pub decreases-loop-items : goal.decreases-loop-items
decreases-loop-items g l = l.count - vec_len l.items
