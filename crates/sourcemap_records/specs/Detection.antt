-- Defines which bytes are a source map. Their JSON value must be an object with certain keys. A key whose value is null
-- counts as missing. A version, if there is one, must be a `u32`.
use Rattle.std.specs.Prelude.{ℕ, List, Bool, false, ◌&&◌, ◌||◌, IsTrue, is_some}
use Rattle.std.specs.Option.{option_map_or}
use Rattle.serde_json.specs.Data.{Data}
use Rattle.sourcemap_records.specs.Bytes.{HoldJson}
use Rattle.sourcemap_records.specs.Jsontypes.{minimal_of}
use Rattle.sourcemap_records.specs.declared.jsontypes.MinimalRawSourceMap.{MinimalRawSourceMap}

-- the keys are those of an index map, or of a map without sections
abbrev pub has_map_keys : MinimalRawSourceMap → Bool
has_map_keys keys =
    keys.sections
    || ((is_some keys.version || keys.file)
    && (keys.sources || keys.source_root || keys.sources_content || keys.names)
    && keys.mappings)

-- the JSON value has the keys of a source map; false for a value that is not an object, or whose version is neither
-- null nor a `u32`
abbrev pub is_map : Data → Bool
is_map d = option_map_or has_map_keys (minimal_of d) false

-- after the junk header, if there is one, the bytes can be read as JSON (`HoldJson`), and their value has the keys of a
-- source map
abbrev pub AreMap : List ℕ → Type 0
AreMap bytes = (d : Data) × HoldJson bytes d × IsTrue (is_map d)
