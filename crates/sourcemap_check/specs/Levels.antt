-- Which parts of JSON objects and arrays are kept, because a rule looks at them.
use Rattle.std.specs.Prelude.{ℕ, List, [], ◌∷◌, codes, Option, Some, None, if◌then◌else◌}
use Rattle.std.specs.Str.{bytes_eq}
use Rattle.sourcemap_json_read.specs.Kept.{Part, at_key, all_items}
use Rattle.sourcemap_check.specs.declared.levels.CheckLevel.{CheckLevel}
use Rattle.sourcemap_check.specs.declared.levels.CheckLevel.TheVariants.{Scalar, Scalars, Map, Sections, Section, Offset}

-- the level beside this key in a table; `None` if the key is not in the table
abbrev pub level_at : List ℕ → List (List ℕ × CheckLevel) → Option CheckLevel
level_at key [] = None
level_at key (row ∷ rows) = if bytes_eq key row.0 then Some row.1 else level_at key rows

-- the keys of an object of each level, with the levels of their values
abbrev pub map_keys : List (List ℕ × CheckLevel)
map_keys =
    (codes "version", Scalar) ∷
    (codes "file", Scalar) ∷
    (codes "sourceRoot", Scalar) ∷
    (codes "sources", Scalars) ∷
    (codes "sourcesContent", Scalars) ∷
    (codes "names", Scalars) ∷
    (codes "ignoreList", Scalars) ∷
    (codes "mappings", Scalar) ∷
    (codes "sections", Sections) ∷ []

abbrev pub section_keys : List (List ℕ × CheckLevel)
section_keys = (codes "offset", Offset) ∷ (codes "map", Map) ∷ []

abbrev pub offset_keys : List (List ℕ × CheckLevel)
offset_keys = (codes "line", Scalar) ∷ (codes "column", Scalar) ∷ []

-- the level of the value at a key of an object, or of the items of an array; `None` if they are not kept
abbrev pub inner_level : CheckLevel → Part → Option CheckLevel
inner_level Map (at_key key) = level_at key map_keys
inner_level Section (at_key key) = level_at key section_keys
inner_level Offset (at_key key) = level_at key offset_keys
inner_level Scalars all_items = Some Scalar
inner_level Sections all_items = Some Section
inner_level level part = None
