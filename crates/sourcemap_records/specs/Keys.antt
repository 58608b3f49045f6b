-- The keys of a record in three groups: `FileKeys`, `ContentKeys` and `ExtraKeys`. The groups are read in this order.
-- Within a group, the keys are read in the order of the fields. The keys are put into the JSON object in the same
-- order. The object itself keeps its keys in byte order. The keys `sections`, `debugId` and `debug_id` are in no group.
use Rattle.std.specs.Prelude.{◌≡◌, ℕ, List, [], ◌∷◌, map, codes, Option, Some, IfSome, option_map, string_bytes, false}
use Rattle.std.specs.List.{list_any, AllByRecursion}
use Rattle.std.specs.Str.{bytes_eq}
use Rattle.serde_json.specs.Data.{Data, string, Members}
use Rattle.serde_json.specs.Find.{get_member}
use Rattle.serde_json.specs.View.{view}
use Rattle.sourcemap_records.specs.Field.{with, any, text, small_number, or_null, list, at, written_number, written_or_null, written_list}
use Rattle.sourcemap_records.specs.Jsontypes.{FitsU32, Fields, Scopes, scopes, scopes_view, text_view, texts_view, written_scopes}
use Rattle.sourcemap_records.specs.declared.keys.RawFileKeys.{RawFileKeys}
use Rattle.sourcemap_records.specs.declared.keys.RawContentKeys.{RawContentKeys}
use Rattle.sourcemap_records.specs.declared.keys.RawExtraKeys.{RawExtraKeys}
use Rattle.sourcemap_records.specs.declared.keys.RawGroups.{RawGroups}

pub record FileKeys : Type 0 where
  pub version : Option ℕ
  pub file : Option Data
  pub sources : Option (List (Option (List ℕ)))
  pub source_root : Option (List ℕ)

pub record ContentKeys : Type 0 where
  pub sources_content : Option (List (Option (List ℕ)))
  pub names : Option (List Data)
  pub range_mappings : Option (List ℕ)
  pub mappings : Option (List ℕ)

pub record ExtraKeys : Type 0 where
  pub ignore_list : Option (List ℕ)
  pub x_facebook_offsets : Option (List (Option ℕ))
  pub x_metro_module_paths : Option (List (List ℕ))
  pub x_facebook_sources : Option (List (Option (List Scopes)))

abbrev pub file_keys_of : Fields → FileKeys
file_keys_of f = record { version = f.version; file = f.file; sources = f.sources; source_root = f.source_root }

abbrev pub content_keys_of : Fields → ContentKeys
content_keys_of f = record {
  sources_content = f.sources_content;
  names = f.names;
  range_mappings = f.range_mappings;
  mappings = f.mappings;
}

abbrev pub extra_keys_of : Fields → ExtraKeys
extra_keys_of f = record {
  ignore_list = f.ignore_list;
  x_facebook_offsets = f.x_facebook_offsets;
  x_metro_module_paths = f.x_metro_module_paths;
  x_facebook_sources = f.x_facebook_sources;
}

abbrev pub fields_from : FileKeys → ContentKeys → ExtraKeys → Option (List ℕ) → Fields
fields_from file_keys content_keys extra_keys debug_id = record {
  version = file_keys.version;
  file = file_keys.file;
  sources = file_keys.sources;
  source_root = file_keys.source_root;
  sources_content = content_keys.sources_content;
  names = content_keys.names;
  range_mappings = content_keys.range_mappings;
  mappings = content_keys.mappings;
  ignore_list = extra_keys.ignore_list;
  x_facebook_offsets = extra_keys.x_facebook_offsets;
  x_metro_module_paths = extra_keys.x_metro_module_paths;
  x_facebook_sources = extra_keys.x_facebook_sources;
  debug_id = debug_id;
}

-- ---- from groups in memory to the model

abbrev pub file_keys_view : RawFileKeys → FileKeys
file_keys_view h = record {
  version = h.version;
  file = option_map view h.file;
  sources = texts_view h.sources;
  source_root = text_view h.source_root;
}

abbrev pub content_keys_view : RawContentKeys → ContentKeys
content_keys_view c = record {
  sources_content = texts_view c.sources_content;
  names = option_map (λ v. map view v.items) c.names;
  range_mappings = text_view c.range_mappings;
  mappings = text_view c.mappings;
}

abbrev pub extra_keys_view : RawExtraKeys → ExtraKeys
extra_keys_view x = record {
  ignore_list = option_map (λ v. v.items) x.ignore_list;
  x_facebook_offsets = option_map (λ v. v.items) x.x_facebook_offsets;
  x_metro_module_paths = option_map (λ v. map string_bytes v.items) x.x_metro_module_paths;
  x_facebook_sources = option_map (λ v. map (option_map (λ s. map scopes_view s.items)) v.items) x.x_facebook_sources;
}

abbrev pub groups_view : RawGroups → Fields
groups_view g = fields_from (file_keys_view g.file_keys) (content_keys_view g.content_keys)
    (extra_keys_view g.extra_keys) g.debug_id

-- ---- which values a group may have

abbrev pub AreFileKeysInRange : FileKeys → Type 0
AreFileKeysInRange h = IfSome h.version FitsU32

abbrev pub AreExtraKeysInRange : ExtraKeys → Type 0
AreExtraKeysInRange x =
    IfSome x.ignore_list (AllByRecursion FitsU32) × IfSome x.x_facebook_offsets (AllByRecursion (λ n. IfSome n FitsU32))

-- ---- reading

abbrev pub file_keys_in : Members → Option FileKeys
file_keys_in ms =
    with (at (codes "version") small_number ms) (λ version.
    with (at (codes "file") any ms) (λ file.
    with (at (codes "sources") (list (or_null text)) ms) (λ sources.
    with (at (codes "sourceRoot") text ms) (λ source_root.
    Some (record { version = version; file = file; sources = sources; source_root = source_root })))))

abbrev pub content_keys_in : Members → Option ContentKeys
content_keys_in ms =
    with (at (codes "sourcesContent") (list (or_null text)) ms) (λ sources_content.
    with (at (codes "names") (list any) ms) (λ names.
    with (at (codes "rangeMappings") text ms) (λ range_mappings.
    with (at (codes "mappings") text ms) (λ mappings.
    Some (record {
      sources_content = sources_content;
      names = names;
      range_mappings = range_mappings;
      mappings = mappings;
    })))))

abbrev pub extra_keys_in : Members → Option ExtraKeys
extra_keys_in ms =
    with (at (codes "ignoreList") (list small_number) ms) (λ ignore_list.
    with (at (codes "x_facebook_offsets") (list (or_null small_number)) ms) (λ x_facebook_offsets.
    with (at (codes "x_metro_module_paths") (list text) ms) (λ x_metro_module_paths.
    with (at (codes "x_facebook_sources") (list (or_null (list scopes))) ms) (λ x_facebook_sources.
    Some (record {
      ignore_list = ignore_list;
      x_facebook_offsets = x_facebook_offsets;
      x_metro_module_paths = x_metro_module_paths;
      x_facebook_sources = x_facebook_sources;
    })))))

-- the JSON keys of `FileKeys`, in reverse order: the key that is read last comes first. `read_file_keys` removes no
-- other key
abbrev pub file_key_names : List (List ℕ)
file_key_names = codes "sourceRoot" ∷ codes "sources" ∷ codes "file" ∷ codes "version" ∷ []

-- the JSON keys of `ContentKeys`, in reverse order: the key that is read last comes first. `read_content_keys` removes
-- no other key
abbrev pub content_key_names : List (List ℕ)
content_key_names = codes "mappings" ∷ codes "rangeMappings" ∷ codes "names" ∷ codes "sourcesContent" ∷ []

-- all members but those with these names are as before
abbrev pub KeepsBut : List (List ℕ) → Members → Members → Type 0
KeepsBut names before after =
    (other : List ℕ) → list_any (bytes_eq other) names ≡ false → get_member other after ≡ get_member other before

-- ---- writing

abbrev pub file_entries : FileKeys → List (List ℕ × Option Data)
file_entries h =
    (codes "version", Some (written_or_null written_number h.version)) ∷
    (codes "file", h.file) ∷
    (codes "sources", Some (written_or_null (written_list (written_or_null string)) h.sources)) ∷
    (codes "sourceRoot", option_map string h.source_root) ∷ []

abbrev pub content_entries : ContentKeys → List (List ℕ × Option Data)
content_entries c =
    (codes "sourcesContent", option_map (written_list (written_or_null string)) c.sources_content) ∷
    (codes "names", option_map (written_list (λ d. d)) c.names) ∷
    (codes "rangeMappings", option_map string c.range_mappings) ∷
    (codes "mappings", option_map string c.mappings) ∷ []

abbrev pub extra_entries : ExtraKeys → List (List ℕ × Option Data)
extra_entries x =
    (codes "ignoreList", option_map (written_list written_number) x.ignore_list) ∷
    (codes "x_facebook_offsets", option_map (written_list (written_or_null written_number)) x.x_facebook_offsets) ∷
    (codes "x_metro_module_paths", option_map (written_list string) x.x_metro_module_paths) ∷
    (codes "x_facebook_sources", option_map (written_list (written_or_null (written_list written_scopes))) x.x_facebook_sources) ∷ []
