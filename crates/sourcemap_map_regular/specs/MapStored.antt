-- Conversions between the value of a map and the values of the map's parts.
use Rattle.std.specs.Prelude.{ℕ, ◌≤◌, List, Option, length}
use Rattle.sourcemap_tokens.specs.declared.tokens.RawToken.{RawToken}
use Rattle.sourcemap_map_parts.specs.MapMetadata.{MetadataValue}
use Rattle.sourcemap_map_conversions.specs.Parts.{PartsValue}
use Rattle.sourcemap_map_parts.specs.Sources.{SourcesValue}
use Rattle.sourcemap_texts.specs.Texts.{texts_of}
use Rattle.sourcemap_map_regular.specs.Map.{MapValue}
use Rattle.sourcemap_map_regular.specs.declared.map.SourceMap.TheInside.{Inside}

-- the map of these parts
abbrev pub map_over : MetadataValue → List RawToken → List (List ℕ) → SourcesValue → List (Option (List ℕ)) → MapValue
map_over metadata tokens names sources contents = record {
  file = metadata.file;
  root = sources.root;
  tokens = tokens;
  names = names;
  sources = sources.texts;
  contents = contents;
  ignored = metadata.ignored;
  debug_id = metadata.debug_id;
}

abbrev pub map_in : PartsValue → MapValue
map_in p = map_over p.metadata p.tokens p.names p.sources p.contents

-- the parts of a map
abbrev pub parts_in : MapValue → PartsValue
parts_in m = record {
  metadata = record { file = m.file; ignored = m.ignored; debug_id = m.debug_id };
  tokens = m.tokens;
  names = m.names;
  sources = record { root = m.root; texts = m.sources };
  contents = m.contents;
}

abbrev pub value_of : Inside → MapValue
value_of a = map_over a.metadata a.tokens (texts_of a.names) a.sources a.contents

-- there are at most 4294967295 names. So the id of each name is less than `no_id`, and a token with the name id `no_id`
-- has no name
abbrev pub HasFewNames : Inside → Type 0
HasFewNames a = length (texts_of a.names) ≤ 4294967295
