use Rattle.std.proofs.Common.{◌≡◌, map, take}
use Rattle.sourcemap_index_flatten.specs.Table.{entry_values}
use Rattle.sourcemap_index_flatten.proofs.entries.contents_of.Given as goal

abbrev pub invariant-loop-entry : goal.invariant-loop-entry
invariant-loop-entry l = l.contents.items ≡ map (λ e. e.1) (entry_values (take l.entry-index l.entries))
