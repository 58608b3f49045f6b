-- The parts that a `FileParts` holds.
use Rattle.std.specs.Prelude.{map}
use Rattle.sourcemap_compiled_write.specs.Parts.{Parts}
use Rattle.sourcemap_compiled_write.specs.TextValues.{text_value}
use Rattle.sourcemap_compiled_write.specs.declared.parts.FileParts.{FileParts}

abbrev pub parts_value : FileParts → Parts
parts_value parts = record {
  tokens = parts.tokens.now;
  scopes = parts.scopes.now;
  sources = map text_value parts.sources.now;
  names = map text_value parts.names.now;
  scope_names = map text_value parts.scope_names.now;
  file = text_value parts.file;
  contents = map text_value parts.contents.now;
  debug_id = parts.debug_id;
}
