-- The parts of a regular map as a value.
use Rattle.std.specs.Prelude.{ℕ, List, Option}
use Rattle.sourcemap_tokens.specs.declared.tokens.RawToken.{RawToken}
use Rattle.sourcemap_texts.specs.Texts.{texts_of}
use Rattle.sourcemap_map_parts.specs.MapMetadata.{MetadataValue}
use Rattle.sourcemap_map_parts.specs.Sources.{SourcesValue}
use Rattle.sourcemap_map_conversions.specs.declared.parts.Parts.{Parts}

pub record PartsValue : Type 0 where
  pub metadata : MetadataValue
  pub tokens : List RawToken
  pub names : List (List ℕ)
  pub sources : SourcesValue
  pub contents : List (Option (List ℕ))

abbrev pub parts_view : Parts → PartsValue
parts_view parts = record {
  metadata = parts.metadata;
  tokens = parts.tokens;
  names = texts_of parts.names;
  sources = parts.sources;
  contents = parts.contents;
}
