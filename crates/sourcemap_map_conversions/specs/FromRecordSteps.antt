-- The steps of reading a record as the parts of a regular map. `AreTextsIn`, `IsMetadataIn`, `AreListsIn` and
-- `ArePartsIn` state that the fields of `RecordParts` equal the fields of the record `r`. A missing `mappings`,
-- `rangeMappings` or list counts as empty. A missing `file`, `sourceRoot` or debug id stays missing. `metadata_read`,
-- `sources_read` and `parts_read` convert the fields of `RecordParts` to parts of the map.
use Rattle.std.specs.Prelude.{◌≡◌, ◌≤◌, vec_len, List, map, option_map, string_bytes}
use Rattle.serde_json.specs.View.{view}
use Rattle.sourcemap_tokens.specs.declared.tokens.RawToken.{RawToken}
use Rattle.sourcemap_records.specs.Jsontypes.{Fields, text_view}
use Rattle.sourcemap_map_conversions.specs.FromRecord.{list_or_empty, file_read, name_read, source_read, rising}
use Rattle.sourcemap_map_parts.specs.MapMetadata.{MetadataValue}
use Rattle.sourcemap_map_conversions.specs.Parts.{PartsValue}
use Rattle.sourcemap_map_parts.specs.Sources.{SourcesValue}
use Rattle.sourcemap_map_conversions.specs.declared.from_record.RecordTexts.{RecordTexts}
use Rattle.sourcemap_map_conversions.specs.declared.from_record.RecordMetadata.{RecordMetadata}
use Rattle.sourcemap_map_conversions.specs.declared.from_record.RecordLists.{RecordLists}
use Rattle.sourcemap_map_conversions.specs.declared.from_record.RecordParts.{RecordParts}

pub record AreTextsIn (r : Fields) (texts : RecordTexts) : Type 0 where
  pub mappings : string_bytes texts.mappings ≡ list_or_empty r.mappings
  pub ranges : string_bytes texts.ranges ≡ list_or_empty r.range_mappings

pub record IsMetadataIn (r : Fields) (metadata : RecordMetadata) : Type 0 where
  pub file : option_map view metadata.file ≡ r.file
  pub ids : metadata.ids.items ≡ list_or_empty r.ignore_list
  pub debug_id : metadata.debug_id ≡ r.debug_id

pub record AreListsIn (r : Fields) (lists : RecordLists) : Type 0 where
  pub names : map view lists.names.items ≡ list_or_empty r.names
  pub root : text_view lists.root ≡ r.source_root
  pub sources : map text_view lists.sources.items ≡ list_or_empty r.sources
  pub contents : map text_view lists.contents.items ≡ list_or_empty r.sources_content

pub record ArePartsIn (r : Fields) (parts : RecordParts) : Type 0 where
  pub texts : AreTextsIn r parts.texts
  pub metadata : IsMetadataIn r parts.metadata
  pub lists : AreListsIn r parts.lists

-- each of the lists `names`, `sources` and `contents` has at most 4294967295 items
pub record HaveFewItems (lists : RecordLists) : Type 0 where
  pub names : vec_len lists.names ≤ 4294967295
  pub sources : vec_len lists.sources ≤ 4294967295
  pub contents : vec_len lists.contents ≤ 4294967295

-- the metadata that is read from these fields of a record: the file name (`file_read`), the ignore list in increasing
-- order without duplicates (`rising`), and the debug id
abbrev pub metadata_read : RecordMetadata → MetadataValue
metadata_read metadata = record {
  file = option_map file_read (option_map view metadata.file);
  ignored = rising metadata.ids.items;
  debug_id = metadata.debug_id;
}

abbrev pub sources_read : RecordLists → SourcesValue
sources_read lists = record {
  root = text_view lists.root;
  texts = map source_read (map text_view lists.sources.items);
}

abbrev pub parts_read : RecordMetadata → RecordLists → List RawToken → PartsValue
parts_read metadata lists tokens = record {
  metadata = metadata_read metadata;
  tokens = tokens;
  names = map name_read (map view lists.names.items);
  sources = sources_read lists;
  contents = map text_view lists.contents.items;
}
