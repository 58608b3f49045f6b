use Rattle.std.proofs.Common.{◌≡◌, map, take}
use Rattle.sourcemap_texts.specs.Texts.{texts_of}
use Rattle.sourcemap_index_flatten.specs.Table.{entry_values}
use Rattle.sourcemap_index_flatten.proofs.entries.texts_of.Given as goal

abbrev pub invariant-loop-entry : goal.invariant-loop-entry
invariant-loop-entry l = texts_of l.texts ≡ map (λ e. e.0) (entry_values (take l.entry-index l.entries))
