use Rattle.std.proofs.Common.{◌≡◌, None, map, take, string_bytes}
use Rattle.sourcemap_index_flatten.specs.Table.{entry_values}
use Rattle.sourcemap_index_flatten.proofs.entries.names_of.Given as goal

abbrev pub invariant-loop-text : goal.invariant-loop-text
invariant-loop-text l =
    entry_values l.entries.items ≡ map (λ name. (name, None)) (map string_bytes (take l.text-index l.names))
