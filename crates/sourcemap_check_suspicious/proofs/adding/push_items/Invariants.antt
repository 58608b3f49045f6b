use Rattle.std.proofs.Common.{◌≡◌, ◌++◌, map, take}
use Rattle.sourcemap_check_suspicious.specs.Suspects.{item_suspect}
use Rattle.sourcemap_check_suspicious.proofs.adding.push_items.Given as goal

abbrev pub invariant-loop-index : goal.invariant-loop-index
invariant-loop-index l =
    l.first.items ≡ l.initial.first.items ++ map (item_suspect l.suspicion) (take l.index-index l.indexes)
