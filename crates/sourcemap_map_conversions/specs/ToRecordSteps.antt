-- The steps of writing the parts of a map as a record.
use Rattle.std.specs.Prelude.{◌≡◌, ℕ, List, [], length, map, Option, Some, None, option_map, string_bytes}
use Rattle.std.specs.Prelude.{if◌then◌else◌, is_some}
use Rattle.std.specs.List.{list_any}
use Rattle.serde_json.specs.View.{view}
use Rattle.serde_json.specs.Data.{string}
use Rattle.sourcemap_tokens.specs.declared.tokens.RawToken.{RawToken}
use Rattle.sourcemap_records.specs.Jsontypes.{Fields, text_view}
use Rattle.sourcemap_texts.specs.Texts.{texts_of, contents_in}
use Rattle.sourcemap_map_parts.specs.Contents.{fitted}
use Rattle.sourcemap_map_conversions.specs.Parts.{PartsValue}
use Rattle.sourcemap_map_conversions.specs.ToRecord.{AreTextsOf, written_ids}
use Rattle.sourcemap_map_conversions.specs.declared.to_record.TokenTexts.{TokenTexts}
use Rattle.sourcemap_map_conversions.specs.declared.to_record.OtherParts.{OtherParts}
use Rattle.sourcemap_map_conversions.specs.declared.to_record.FileAndRoot.{FileAndRoot}
use Rattle.sourcemap_map_conversions.specs.declared.to_record.WrittenLists.{WrittenLists}

-- the texts that encode these tokens in a map with `names` names
abbrev pub AreWritten : ℕ → List RawToken → TokenTexts → Type 0
AreWritten names tokens texts = AreTextsOf names tokens (string_bytes texts.mappings) (text_view texts.ranges)

-- all parts but the tokens
abbrev pub others_view : OtherParts → PartsValue
others_view others = record {
  metadata = others.metadata;
  tokens = [];
  names = texts_of others.names;
  sources = record { root = option_map string_bytes others.root; texts = texts_of others.sources };
  contents = contents_in others.contents;
}

-- `lists` holds these names, sources, contents and ignored ids, converted for a record. Names become JSON strings, and
-- each source becomes `Some`. The list of contents is shortened or padded with `None` to the number of sources
-- (`fitted`). The ids are unchanged
pub record AreListsOf (name_texts source_texts : List (List ℕ)) (content_texts : List (Option (List ℕ)))
    (ignored : List ℕ) (lists : WrittenLists) : Type 0 where
  pub names : map view lists.names.items ≡ map string name_texts
  pub sources : map text_view lists.sources.items ≡ map Some source_texts
  pub contents : map text_view lists.contents.items ≡ fitted (length source_texts) content_texts
  pub ids : lists.ids.items ≡ ignored

-- these contents, or `None` if no source has contents
abbrev pub some_contents : List (Option (List ℕ)) → Option (List (Option (List ℕ)))
some_contents contents = if list_any is_some contents then Some contents else None

-- the record of these texts and lists
abbrev pub record_of_parts : TokenTexts → FileAndRoot → WrittenLists → Option (List ℕ) → Fields
record_of_parts texts file_and_root lists id = record {
  version = Some 3;
  file = option_map string (text_view file_and_root.file);
  sources = Some (map text_view lists.sources.items);
  source_root = text_view file_and_root.root;
  sources_content = some_contents (map text_view lists.contents.items);
  names = Some (map view lists.names.items);
  range_mappings = text_view texts.ranges;
  mappings = Some (string_bytes texts.mappings);
  ignore_list = written_ids lists.ids.items;
  x_facebook_offsets = None;
  x_metro_module_paths = None;
  x_facebook_sources = None;
  debug_id = id;
}
