-- Which parts of JSON objects and arrays are kept, because a record or the detection of maps reads them.
use Rattle.std.specs.Prelude.{◌≡◌, ℕ, List, [], ◌∷◌, codes, Option, Some, None, if◌then◌else◌}
use Rattle.std.specs.Str.{bytes_eq}
use Rattle.serde_json.specs.Data.{Data}
use Rattle.sourcemap_json_read.specs.Kept.{Part, at_key, all_items, kept}
use Rattle.sourcemap_records.specs.Bytes.{HoldJson}
use Rattle.sourcemap_records.specs.declared.levels.RecordLevel.{RecordLevel}
use Rattle.sourcemap_records.specs.declared.levels.RecordLevel.TheVariants.{Whole, Scalar, Scalars, Record, Sections, Section, Offset, AllScopes, SourceScopes, Scopes, Minimal}

-- the level beside this key in a table; `None` if the key is not in the table
abbrev pub level_at : List ℕ → List (List ℕ × RecordLevel) → Option RecordLevel
level_at key [] = None
level_at key (row ∷ rows) = if bytes_eq key row.0 then Some row.1 else level_at key rows

-- the keys of an object of each level, with the levels of their values
abbrev pub record_keys : List (List ℕ × RecordLevel)
record_keys =
    (codes "version", Scalar) ∷
    (codes "file", Whole) ∷
    (codes "sources", Scalars) ∷
    (codes "sourceRoot", Scalar) ∷
    (codes "sourcesContent", Scalars) ∷
    (codes "sections", Sections) ∷
    (codes "names", Whole) ∷
    (codes "rangeMappings", Scalar) ∷
    (codes "mappings", Scalar) ∷
    (codes "ignoreList", Scalars) ∷
    (codes "x_facebook_offsets", Scalars) ∷
    (codes "x_metro_module_paths", Scalars) ∷
    (codes "x_facebook_sources", AllScopes) ∷
    (codes "debugId", Scalar) ∷
    (codes "debug_id", Scalar) ∷ []

abbrev pub section_keys : List (List ℕ × RecordLevel)
section_keys = (codes "offset", Offset) ∷ (codes "url", Scalar) ∷ (codes "map", Record) ∷ []

abbrev pub offset_keys : List (List ℕ × RecordLevel)
offset_keys = (codes "line", Scalar) ∷ (codes "column", Scalar) ∷ []

abbrev pub scopes_keys : List (List ℕ × RecordLevel)
scopes_keys = (codes "names", Scalars) ∷ (codes "mappings", Scalar) ∷ []

abbrev pub minimal_keys : List (List ℕ × RecordLevel)
minimal_keys =
    (codes "version", Scalar) ∷
    (codes "file", Scalar) ∷
    (codes "sources", Scalar) ∷
    (codes "sourceRoot", Scalar) ∷
    (codes "sourcesContent", Scalar) ∷
    (codes "sections", Scalar) ∷
    (codes "names", Scalar) ∷
    (codes "mappings", Scalar) ∷ []

-- the level of the value at a key of an object, or of the items of an array; `None` if they are not kept
abbrev pub inner_level : RecordLevel → Part → Option RecordLevel
inner_level Whole part = Some Whole
inner_level Record (at_key key) = level_at key record_keys
inner_level Section (at_key key) = level_at key section_keys
inner_level Offset (at_key key) = level_at key offset_keys
inner_level Scopes (at_key key) = level_at key scopes_keys
inner_level Minimal (at_key key) = level_at key minimal_keys
inner_level Scalars all_items = Some Scalar
inner_level Sections all_items = Some Section
inner_level AllScopes all_items = Some SourceScopes
inner_level SourceScopes all_items = Some Scopes
inner_level level part = None

-- `v` is what is kept, at this level, of the JSON value of bytes
abbrev pub HoldKept : RecordLevel → List ℕ → Data → Type 0
HoldKept level bytes v = (d : Data) × HoldJson bytes d × (v ≡ kept inner_level level d)
