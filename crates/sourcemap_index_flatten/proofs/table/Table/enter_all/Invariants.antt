use Rattle.std.proofs.Common.{List, ◌++◌, take}
use Rattle.sourcemap_index_flatten.specs.Table.{TextEntry, IsTable, AreEntered, entry_values}
use Rattle.sourcemap_index_flatten.proofs.table.Table.enter_all.Given as goal

abbrev pub invariant-loop-item : goal.invariant-loop-item
invariant-loop-item l = (before : List TextEntry) → IsTable before l.fn.self
    → AreEntered (before ++ entry_values (take l.item-index l.entries)) (entry_values (take l.item-index l.entries))
    l.numbers.items l.self
