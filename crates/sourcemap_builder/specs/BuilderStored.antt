-- The value of a builder from the values of its fields.
use Rattle.std.specs.Prelude.{◌≤◌, length, option_map, string_bytes}
use Rattle.sourcemap_texts.specs.Texts.{contents_in}
use Rattle.sourcemap_builder.specs.Builder.{BuilderValue, with_changes}
use Rattle.sourcemap_builder.specs.declared.builder.SourceMapBuilder.TheInside.{Inside}

abbrev pub builder_value : Inside → BuilderValue
builder_value a = record {
  file = a.metadata.file;
  root = option_map string_bytes a.root;
  tokens = a.tokens.items;
  names = a.names;
  interned = a.interned;
  sources = with_changes (contents_in a.changed) a.interned;
  contents = a.contents;
  ignored = a.metadata.ignored;
  debug_id = a.metadata.debug_id;
}

-- the list of changes is not longer than the list of sources
abbrev pub HasFewChanges : Inside → Type 0
HasFewChanges a = length (contents_in a.changed) ≤ length a.interned
