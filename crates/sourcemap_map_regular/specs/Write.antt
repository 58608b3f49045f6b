-- The JSON text of a map.
use Rattle.std.specs.Prelude.{◌≡◌, ℕ, List}
use Rattle.serde_json.specs.Written.{compact_text}
use Rattle.sourcemap_records.specs.Jsontypes.{Tree, written}
use Rattle.sourcemap_map_regular.specs.Map.{MapValue}
use Rattle.sourcemap_map_regular.specs.Encode.{IsRecordOf}
pub use Rattle.sourcemap_map_encode.specs.Encoded.{IsText, IsEncoded, IsIo}

-- `text` is the compact JSON text of the record that the map `m` is encoded to (`IsRecordOf`)
abbrev pub IsCompactTextOf : MapValue → List ℕ → Type 0
IsCompactTextOf m text = (t : Tree) × IsRecordOf m t × (text ≡ compact_text (written t))
