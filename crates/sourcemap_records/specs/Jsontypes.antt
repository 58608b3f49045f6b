-- The record of a JSON value, and the JSON value of a record.
use Rattle.std.specs.Prelude.{Bool, true, false, ◌≢◌, ℕ, ◌<◌, ◌^◌, List, [], ◌∷◌, map, codes, Option, Some, None, option_map, string_bytes, String, Vec, IfSome}
use Rattle.std.specs.List.{AllByRecursion}
use Rattle.std.specs.Option.{option_or}
use Rattle.std.specs.Ordering.{nat_cmp, match_ordering}
use Rattle.std.specs.Cmp.Lexicographic.{slice_cmp}
use Rattle.std.specs.declared.alloc.Global.{Global}
use Rattle.serde_json.specs.Data.{Data, null, string, array, object, Items, no_items, item, Members, no_members, member}
use Rattle.serde_json.specs.Find.{as_object, get}
use Rattle.serde_json.specs.View.{view}
use Rattle.sourcemap_headers.specs.DebugId.{IsId, debug_id_of, debug_id_text}
use Rattle.sourcemap_records.specs.Field.{with, found, any, text, small_number, or_null, or_null_of, list, at, required, written_number, written_or_null, written_list, put_all, put_if}
use Rattle.sourcemap_records.specs.declared.jsontypes.FacebookScopeMapping.{FacebookScopeMapping}
use Rattle.sourcemap_records.specs.declared.jsontypes.MinimalRawSourceMap.{MinimalRawSourceMap}
use Rattle.sourcemap_records.specs.declared.jsontypes.RawSectionOffset.{RawSectionOffset}
use Rattle.sourcemap_records.specs.declared.jsontypes.RawSection.{RawSection, RawSection-F, fold-RawSection}
use Rattle.sourcemap_records.specs.declared.jsontypes.RawSourceMap.{RawSourceMap, RawSourceMap-F, fold-RawSourceMap}

-- ---- the model of a record

-- the function scopes of a source
pub record Scopes : Type 0 where
  pub names : List (List ℕ)
  pub mappings : List ℕ

-- all keys but the sections
pub record Fields : Type 0 where
  pub version : Option ℕ
  pub file : Option Data
  pub sources : Option (List (Option (List ℕ)))
  pub source_root : Option (List ℕ)
  pub sources_content : Option (List (Option (List ℕ)))
  pub names : Option (List Data)
  pub range_mappings : Option (List ℕ)
  pub mappings : Option (List ℕ)
  pub ignore_list : Option (List ℕ)
  pub x_facebook_offsets : Option (List (Option ℕ))
  pub x_metro_module_paths : Option (List (List ℕ))
  pub x_facebook_sources : Option (List (Option (List Scopes)))
  pub debug_id : Option (List ℕ)

-- the head of a section: all but its map
pub record SectionHead : Type 0 where
  pub line : ℕ
  pub column : ℕ
  pub url : Option (List ℕ)

-- a record, without sections or with them
mutual
  pub data Tree : Type 0 where
    plain : Fields → Tree
    indexed : Fields → Sections → Tree

  pub data Sections : Type 0 where
    no_more : Sections
    bare : SectionHead → Sections → Sections
    mapped : SectionHead → Tree → Sections → Sections

-- a section: its head, and its map if it has one
pub record Section : Type 0 where
  pub head : SectionHead
  pub map : Option Tree

abbrev pub section_at : SectionHead → Option Tree → Section
section_at head t = record { head = head; map = t }

abbrev pub tree_with : Fields → Option Sections → Tree
tree_with fields None = plain fields
tree_with fields (Some sections) = indexed fields sections

abbrev pub section_with : SectionHead → Option Tree → Sections → Sections
section_with head None rest = bare head rest
section_with head (Some t) rest = mapped head t rest

-- the keys of a record but for its sections
abbrev pub flat : Tree → Fields
flat (plain fields) = fields
flat (indexed fields _) = fields

-- ---- reading

abbrev pub debug_id : Data → Option (List ℕ)
debug_id d = with (text d) debug_id_of

-- `debugId` wins over `debug_id`; an invalid value of either key is an error
abbrev pub debug_id_in : Members → Option (Option (List ℕ))
debug_id_in ms =
    with (at (codes "debugId") debug_id ms) (λ new.
    with (at (codes "debug_id") debug_id ms) (λ old.
    Some (option_or new old)))

abbrev pub scopes_in : Members → Option Scopes
scopes_in ms =
    with (required (codes "names") (list text) ms) (λ names.
    with (required (codes "mappings") text ms) (λ mappings.
    Some (record { names = names; mappings = mappings })))

abbrev pub scopes : Data → Option Scopes
scopes d = with (as_object d) scopes_in

abbrev pub fields_in : Members → Option Fields
fields_in ms =
    with (debug_id_in ms) (λ debug_id.
    with (at (codes "version") small_number ms) (λ version.
    with (at (codes "file") any ms) (λ file.
    with (at (codes "sources") (list (or_null text)) ms) (λ sources.
    with (at (codes "sourceRoot") text ms) (λ source_root.
    with (at (codes "sourcesContent") (list (or_null text)) ms) (λ sources_content.
    with (at (codes "names") (list any) ms) (λ names.
    with (at (codes "rangeMappings") text ms) (λ range_mappings.
    with (at (codes "mappings") text ms) (λ mappings.
    with (at (codes "ignoreList") (list small_number) ms) (λ ignore_list.
    with (at (codes "x_facebook_offsets") (list (or_null small_number)) ms) (λ x_facebook_offsets.
    with (at (codes "x_metro_module_paths") (list text) ms) (λ x_metro_module_paths.
    with (at (codes "x_facebook_sources") (list (or_null (list scopes))) ms) (λ x_facebook_sources.
    Some (record {
      version = version;
      file = file;
      sources = sources;
      source_root = source_root;
      sources_content = sources_content;
      names = names;
      range_mappings = range_mappings;
      mappings = mappings;
      ignore_list = ignore_list;
      x_facebook_offsets = x_facebook_offsets;
      x_metro_module_paths = x_metro_module_paths;
      x_facebook_sources = x_facebook_sources;
      debug_id = debug_id;
    }))))))))))))))

abbrev pub offset_in : Members → Option RawSectionOffset
offset_in ms =
    with (required (codes "line") small_number ms) (λ line.
    with (required (codes "column") small_number ms) (λ column.
    Some (record { line = line; column = column })))

abbrev pub offset : Data → Option RawSectionOffset
offset d = with (as_object d) offset_in

abbrev pub section_head_in : Members → Option SectionHead
section_head_in ms =
    with (required (codes "offset") offset ms) (λ offset.
    with (at (codes "url") text ms) (λ url.
    Some (record { line = offset.line; column = offset.column; url = url })))

-- the record of a value, with its sections and their maps
abbrev mutual
  pub record_of : Data → Option Tree
  record_of (object ms) =
      with (sections_in ms) (λ sections. with (fields_in ms) (λ fields. Some (tree_with fields sections)))
  record_of _ = None

  pub sections_of : Data → Option Sections
  sections_of (array ds) = sections_read ds
  sections_of _ = None

  pub sections_read : Items → Option Sections
  sections_read no_items = Some no_more
  sections_read (item d ds) = with (section_of d)
      (λ section. with (sections_read ds) (λ rest. Some (section_with section.head section.map rest)))

  pub section_of : Data → Option Section
  section_of (object ms) = with (map_in ms) (λ t. with (section_head_in ms) (λ head. Some (section_at head t)))
  section_of _ = None

  -- the member `sections`, which may be missing or null
  pub sections_in : Members → Option (Option Sections)
  sections_in no_members = Some None
  sections_in (member key d ms) = match_ordering (slice_cmp nat_cmp (codes "sections") key) (sections_in ms)
      (or_null_of d (sections_of d)) (sections_in ms)

  -- the member `map`, which may be missing or null
  pub map_in : Members → Option (Option Tree)
  map_in no_members = Some None
  map_in (member key d ms) =
      match_ordering (slice_cmp nat_cmp (codes "map") key) (map_in ms) (or_null_of d (record_of d)) (map_in ms)

-- ---- the keys by which a map is detected

-- present, and not null
abbrev pub is_there : Option Data → Bool
is_there None = false
is_there (Some null) = false
is_there (Some _) = true

abbrev pub minimal_of : Data → Option MinimalRawSourceMap
minimal_of d =
    with (as_object d) (λ _.
    with (found small_number (get (codes "version") d)) (λ version.
    Some (record {
      version = version;
      file = is_there (get (codes "file") d);
      sources = is_there (get (codes "sources") d);
      source_root = is_there (get (codes "sourceRoot") d);
      sources_content = is_there (get (codes "sourcesContent") d);
      sections = is_there (get (codes "sections") d);
      names = is_there (get (codes "names") d);
      mappings = is_there (get (codes "mappings") d);
    })))

-- ---- writing

abbrev pub written_scopes : Scopes → Data
written_scopes s = object (put_all (
    (codes "names", Some (written_list string s.names)) ∷
    (codes "mappings", Some (string s.mappings)) ∷ []) no_members)

abbrev pub entries : Fields → List (List ℕ × Option Data)
entries fields =
    (codes "version", Some (written_or_null written_number fields.version)) ∷
    (codes "file", fields.file) ∷
    (codes "sources", Some (written_or_null (written_list (written_or_null string)) fields.sources)) ∷
    (codes "sourceRoot", option_map string fields.source_root) ∷
    (codes "sourcesContent", option_map (written_list (written_or_null string)) fields.sources_content) ∷
    (codes "names", option_map (written_list (λ d. d)) fields.names) ∷
    (codes "rangeMappings", option_map string fields.range_mappings) ∷
    (codes "mappings", option_map string fields.mappings) ∷
    (codes "ignoreList", option_map (written_list written_number) fields.ignore_list) ∷
    (codes "x_facebook_offsets", option_map (written_list (written_or_null written_number)) fields.x_facebook_offsets) ∷
    (codes "x_metro_module_paths", option_map (written_list string) fields.x_metro_module_paths) ∷
    (codes "x_facebook_sources", option_map (written_list (written_or_null (written_list written_scopes))) fields.x_facebook_sources) ∷
    (codes "debugId", option_map (λ id. string (debug_id_text id)) fields.debug_id) ∷ []

abbrev pub written_fields : Fields → Members
written_fields fields = put_all (entries fields) no_members

abbrev pub written_offset : RawSectionOffset → Data
written_offset offset = object (put_all (
    (codes "line", Some (written_number offset.line)) ∷
    (codes "column", Some (written_number offset.column)) ∷ []) no_members)

abbrev pub written_section : SectionHead → Data → Data
written_section head t = object (put_all (
    (codes "map", Some t) ∷
    (codes "offset", Some (written_offset (record { line = head.line; column = head.column }))) ∷
    (codes "url", Some (written_or_null string head.url)) ∷ []) no_members)

-- a missing key is left out, except version, sources, url and map, which are written as null
abbrev mutual
  pub written : Tree → Data
  written (plain fields) = object (written_fields fields)
  written (indexed fields sections) =
      object (put_if (codes "sections") (Some (array (written_sections sections))) (written_fields fields))

  pub written_sections : Sections → Items
  written_sections no_more = no_items
  written_sections (bare head rest) = item (written_section head null) (written_sections rest)
  written_sections (mapped head t rest) = item (written_section head (written t)) (written_sections rest)

-- the JSON value of one section; a missing map is written as null
abbrev pub written_one : Section → Data
written_one s = written_section s.head (written_or_null written s.map)

-- ---- which records read back

-- `n` is below 2^32, so it fits into a `u32`
abbrev pub FitsU32 : ℕ → Type 0
FitsU32 n = n < 2 ^ 32

pub record AreInRange (fields : Fields) : Type 0 where
  pub version : IfSome fields.version FitsU32
  pub ignore_list : IfSome fields.ignore_list (AllByRecursion FitsU32)
  pub x_facebook_offsets : IfSome fields.x_facebook_offsets (AllByRecursion (λ n. IfSome n FitsU32))
  pub debug_id : IfSome fields.debug_id IsId

abbrev pub IsSectionHeadInRange : SectionHead → Type 0
IsSectionHeadInRange head = FitsU32 head.line × FitsU32 head.column

-- numbers outside `file` and `names` are below 2^32, and a debug id has 16 bytes, as in every record in memory
abbrev mutual
  pub IsInRange : Tree → Type 0
  IsInRange (plain fields) = AreInRange fields
  IsInRange (indexed fields sections) = AreInRange fields × AreSectionsInRange sections

  pub AreSectionsInRange : Sections → Type 0
  AreSectionsInRange no_more = Unit {0}
  AreSectionsInRange (bare head rest) = IsSectionHeadInRange head × AreSectionsInRange rest
  AreSectionsInRange (mapped head t rest) = IsSectionHeadInRange head × IsInRange t × AreSectionsInRange rest

-- the head of a section is in range, and so is its map, if it has one
abbrev pub IsSectionInRange : Section → Type 0
IsSectionInRange s = IsSectionHeadInRange s.head × IfSome s.map IsInRange

-- `file` is never a JSON null, neither in the record nor in the maps of its sections. A JSON null would read back as a
-- missing `file`
abbrev mutual
  pub HasNoNullFile : Tree → Type 0
  HasNoNullFile (plain fields) = fields.file ≢ Some null
  HasNoNullFile (indexed fields sections) = (fields.file ≢ Some null) × HaveNoNullFile sections

  pub HaveNoNullFile : Sections → Type 0
  HaveNoNullFile no_more = Unit {0}
  HaveNoNullFile (bare head rest) = HaveNoNullFile rest
  HaveNoNullFile (mapped head t rest) = HasNoNullFile t × HaveNoNullFile rest

-- a record that reads back as itself
abbrev pub IsFine : Tree → Type 0
IsFine t = IsInRange t × HasNoNullFile t

-- ---- from records in memory to the model

abbrev pub text_view : Option (String Global) → Option (List ℕ)
text_view s = option_map string_bytes s

abbrev pub texts_view : Option (Vec (Option (String Global)) Global) → Option (List (Option (List ℕ)))
texts_view v = option_map (λ v. map text_view v.items) v

abbrev pub scopes_view : FacebookScopeMapping → Scopes
scopes_view s = record { names = map string_bytes s.names.items; mappings = string_bytes s.mappings }

abbrev pub fields_view : {X Y : Type 0} → RawSourceMap-F X Y → Fields
fields_view r = record {
  version = r.version;
  file = option_map view r.file;
  sources = texts_view r.sources;
  source_root = text_view r.source_root;
  sources_content = texts_view r.sources_content;
  names = option_map (λ v. map view v.items) r.names;
  range_mappings = text_view r.range_mappings;
  mappings = text_view r.mappings;
  ignore_list = option_map (λ v. v.items) r.ignore_list;
  x_facebook_offsets = option_map (λ v. v.items) r.x_facebook_offsets;
  x_metro_module_paths = option_map (λ v. map string_bytes v.items) r.x_metro_module_paths;
  x_facebook_sources = option_map (λ v. map (option_map (λ s. map scopes_view s.items)) v.items) r.x_facebook_sources;
  debug_id = r.debug_id;
}

abbrev pub section_head_view : {X Y : Type 0} → RawSection-F X Y → SectionHead
section_head_view s = record { line = s.offset.line; column = s.offset.column; url = text_view s.url }

abbrev pub section_step : RawSection-F Section Tree → Section
section_step s = record { head = section_head_view s; map = option_map (λ b. b.value) s.map }

abbrev pub sections_from : List Section → Sections
sections_from [] = no_more
sections_from (s ∷ ss) = section_with s.head s.map (sections_from ss)

abbrev pub tree_step : RawSourceMap-F Section Tree → Tree
tree_step r = tree_with (fields_view r) (option_map (λ v. sections_from v.items) r.sections)

abbrev pub section : RawSection → Section
section = fold-RawSection Section Tree section_step tree_step

abbrev pub tree : RawSourceMap → Tree
tree = fold-RawSourceMap Section Tree section_step tree_step
