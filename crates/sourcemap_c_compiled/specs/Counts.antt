-- The counts of a compiled map.
use Rattle.std.specs.Prelude.{ℕ, List}
use Rattle.sourcemap_compiled.specs.Layout.{name_count, source_count, token_count}
use Rattle.sourcemap_c_handles.specs.declared.layout.Counts.{Counts}

-- a compiled map has no ignore list and no sections
abbrev pub counts_of : List ℕ → Counts
counts_of bytes = record {
  tokens = token_count bytes;
  sources = source_count bytes;
  names = name_count bytes;
  ignored = 0;
  sections = 0;
}
