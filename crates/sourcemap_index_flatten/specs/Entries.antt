-- Sources with their contents.
use Rattle.std.specs.Prelude.{ℕ, List, map, Option}
use Rattle.std.specs.List.{enumerate_from}
use Rattle.sourcemap_tokens.specs.Items.{item_at}
use Rattle.sourcemap_index_flatten.specs.Table.{TextEntry}

-- each source with the contents at its index
abbrev pub entries_with : List (Option (List ℕ)) → List (List ℕ) → List TextEntry
entries_with contents sources = map (λ source. (source.1, item_at contents source.0)) (enumerate_from 0 sources)
