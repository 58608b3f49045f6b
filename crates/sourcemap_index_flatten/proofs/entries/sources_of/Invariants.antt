use Rattle.std.proofs.Common.{◌≡◌, map, take, string_bytes}
use Rattle.sourcemap_index_flatten.specs.Table.{entry_values}
use Rattle.sourcemap_index_flatten.specs.Entries.{entries_with}
use Rattle.sourcemap_index_flatten.proofs.entries.sources_of.Given as goal

abbrev pub invariant-loop-text : goal.invariant-loop-text
invariant-loop-text l =
    entry_values l.entries.items ≡ entries_with l.contents (map string_bytes (take l.text-index l.sources))
