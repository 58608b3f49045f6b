-- The regular map of a record.
use Rattle.std.specs.Prelude.{◌≡◌, ◌⊎◌, List, Bool, false, is_none, Result, Ok, Err}
use Rattle.std.specs.Bool.{MatchBool}
use Rattle.sourcemap_tokens.specs.declared.tokens.RawToken.{RawToken}
use Rattle.sourcemap_errors.specs.declared.errors.Error.{Error}
use Rattle.sourcemap_errors.specs.declared.errors.Error.TheVariants.{IncompatibleSourceMap}
use Rattle.sourcemap_records.specs.Jsontypes.{Fields, Tree, plain, indexed, flat}
use Rattle.sourcemap_map_conversions.specs.FromRecord.{parts_from}
use Rattle.sourcemap_map_regular.specs.Map.{MapValue}
use Rattle.sourcemap_map_regular.specs.MapStored.{map_in}
pub use Rattle.sourcemap_map_conversions.specs.FromRecord.{list_or_empty, number_read, name_read, file_read}
pub use Rattle.sourcemap_map_conversions.specs.FromRecord.{source_read, rising}
pub use Rattle.sourcemap_map_conversions.specs.FromRecord.{HasFewItems, TokensAnswer}

-- the map of a record whose mappings decode to these tokens
abbrev pub map_of : Fields → List RawToken → MapValue
map_of r tokens = map_in (parts_from r tokens)

-- the result of decoding a record: `IncompatibleSourceMap` if `sources`, `names` or `sourcesContent` has more than
-- 4294967295 items, otherwise the first error of `mappings` and `rangeMappings`, otherwise the map
abbrev pub RecordDecodes : Fields → Result MapValue Error → Type 0
RecordDecodes r (Ok m) = HasFewItems r × TokensAnswer r (Ok m.tokens) × (m ≡ map_of r m.tokens)
RecordDecodes r (Err e) = ((¬ HasFewItems r) × (e ≡ IncompatibleSourceMap)) ⊎ (HasFewItems r × TokensAnswer r (Err e))

-- The records of regular maps.

-- whether the record encodes a regular map: it has neither `sections` nor `x_facebook_sources`, not even as an empty
-- list
abbrev pub is_regular : Tree → Bool
is_regular (plain fields) = is_none fields.x_facebook_sources
is_regular (indexed _ _) = false

-- the result of decoding a record as a regular map; for a record of another kind it is the error
-- `IncompatibleSourceMap`
abbrev pub RegularDecodes : Tree → Result MapValue Error → Type 0
RegularDecodes t answer = MatchBool (is_regular t) (RecordDecodes (flat t) answer) (answer ≡ Err IncompatibleSourceMap)
