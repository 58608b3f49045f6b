-- The JSON text of a map's record, member by member, sorted by the bytes of the keys.
use Rattle.std.specs.Prelude.{◌≡◌, ℕ, true, List, [], ◌∷◌, ◌++◌, length, codes, Bool, ◌||◌, is_some, Option, Some, None}
use Rattle.std.specs.Prelude.{option_map, IfSome}
use Rattle.std.specs.List.{AllByRecursion}
use Rattle.json.specs.Print.{quoted}
use Rattle.serde_json.specs.Data.{Data, string}
use Rattle.serde_json.specs.Written.{comma_if, compact_text}
use Rattle.sourcemap_headers.specs.DebugId.{IsId, debug_id_text}
use Rattle.sourcemap_tokens.specs.declared.tokens.RawToken.{RawToken}
use Rattle.sourcemap_mappings.specs.Write.{IsRangeText}
use Rattle.sourcemap_json_write.specs.Writing.{IsPlainValue}
use Rattle.sourcemap_records.specs.Field.{written_list, written_number, written_or_null}
use Rattle.sourcemap_records.specs.Jsontypes.{FitsU32}
use Rattle.sourcemap_map_parts.specs.MapMetadata.{MetadataValue}
use Rattle.sourcemap_map_parts.specs.Sources.{SourcesValue}
use Rattle.sourcemap_map_conversions.specs.ToRecord.{written_contents, written_ids}
use Rattle.sourcemap_map_encode.specs.Segments.{IsMappingsText}

-- a key, and its value if there is one
abbrev pub Entry : Type 0
Entry = List ℕ × Option Data

-- a comma if `later` is true, then the key as a JSON string, then a colon. `later` says whether another member precedes
abbrev pub key_text : Bool → List ℕ → List ℕ
key_text later key = comma_if later ++ (quoted key ++ 58 ∷ [])

-- the text of a member; empty if the entry has no value
abbrev pub part : Bool → Entry → List ℕ
part later (key, None) = []
part later (key, Some d) = key_text later key ++ compact_text d

-- true if a member is written before these entries (`later` is true), or if one of these entries has a value. An entry
-- with a value is written as a member. An entry without a value is not written
abbrev pub later_after : Bool → List Entry → Bool
later_after later [] = later
later_after later (e ∷ es) = later_after (later || is_some e.1) es

abbrev pub parts_text : Bool → List Entry → List ℕ
parts_text later [] = []
parts_text later (e ∷ es) = part later e ++ parts_text (later || is_some e.1) es

-- the entry has no value, or a plain value. The compact text of a plain value is UTF-8. This text parses to the value,
-- unless the value has more than 127 levels
abbrev pub IsPlainEntry : Entry → Type 0
IsPlainEntry e = IfSome e.1 IsPlainValue

abbrev pub debug_id_entry : Option (List ℕ) → Entry
debug_id_entry id = (codes "debugId", option_map (λ id. string (debug_id_text id)) id)

abbrev pub file_entry : Option (List ℕ) → Entry
file_entry file = (codes "file", option_map string file)

abbrev pub ids_entry : List ℕ → Entry
ids_entry ids = (codes "ignoreList", option_map (written_list written_number) (written_ids ids))

abbrev pub mappings_entry : List ℕ → Entry
mappings_entry mappings = (codes "mappings", Some (string mappings))

abbrev pub names_entry : List (List ℕ) → Entry
names_entry names = (codes "names", Some (written_list string names))

abbrev pub ranges_entry : Option (List ℕ) → Entry
ranges_entry ranges = (codes "rangeMappings", option_map string ranges)

abbrev pub root_entry : Option (List ℕ) → Entry
root_entry root = (codes "sourceRoot", option_map string root)

abbrev pub sources_entry : List (List ℕ) → Entry
sources_entry sources = (codes "sources", Some (written_list string sources))

abbrev pub contents_entry : ℕ → List (Option (List ℕ)) → Entry
contents_entry count contents =
    (codes "sourcesContent", option_map (written_list (written_or_null string)) (written_contents count contents))

abbrev pub version_entry : Entry
version_entry = (codes "version", Some (written_number 3))

-- the members before `mappings`
abbrev pub leading_entries : MetadataValue → List Entry
leading_entries m = debug_id_entry m.debug_id ∷ file_entry m.file ∷ ids_entry m.ignored ∷ []

-- `mappings`, `names` and `rangeMappings`
abbrev pub token_entries : List (List ℕ) → List ℕ → Option (List ℕ) → List Entry
token_entries names mappings ranges = mappings_entry mappings ∷ names_entry names ∷ ranges_entry ranges ∷ []

-- `sourceRoot`, `sources` and `sourcesContent`
abbrev pub source_entries : SourcesValue → List (Option (List ℕ)) → List Entry
source_entries s contents = root_entry s.root ∷ sources_entry s.texts ∷ contents_entry (length s.texts) contents ∷ []

-- the debug id, if any, has 16 bytes; each ignored id is below 2^32
pub record HasSoundLeadingMembers (m : MetadataValue) : Type 0 where
  pub id : IfSome m.debug_id IsId
  pub small : AllByRecursion FitsU32 m.ignored

-- the text of the member `mappings`, in a map with `names` names
abbrev pub IsMappingsPart : Bool → ℕ → List RawToken → List ℕ → Type 0
IsMappingsPart later names tokens text = (mappings : List ℕ) × IsMappingsText names tokens mappings × (text
    ≡ part later (mappings_entry mappings))

-- the text of the member `rangeMappings`; empty if no token is a range token
abbrev pub IsRangesPart : List RawToken → List ℕ → Type 0
IsRangesPart tokens text = (ranges : Option (List ℕ)) × IsRangeText tokens ranges × IsPlainEntry (ranges_entry ranges)
    × (text ≡ part true (ranges_entry ranges))

-- the text of the members `mappings`, `names` and `rangeMappings`
pub record IsTokensText (later : Bool) (names : List (List ℕ)) (tokens : List RawToken) (text : List ℕ) : Type 0 where
  pub mappings : List ℕ
  pub ranges : Option (List ℕ)
  pub of_mappings : IsMappingsText (length names) tokens mappings
  pub of_ranges : IsRangeText tokens ranges
  pub is_plain : AllByRecursion IsPlainEntry (token_entries names mappings ranges)
  pub is : text ≡ parts_text later (token_entries names mappings ranges)
