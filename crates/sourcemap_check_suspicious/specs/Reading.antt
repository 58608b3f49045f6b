-- The regular map of a record, with the texts that the record has for it. Of a record with sections, the flat map.
use Rattle.std.specs.Prelude.{◌≡◌, ℕ, List, [], Option, Some, None, Result, Ok, Err}
use Rattle.sourcemap_errors.specs.declared.errors.Error.{Error}
use Rattle.sourcemap_records.specs.Bytes.{BytesHaveResult}
use Rattle.sourcemap_records.specs.Jsontypes.{Fields, Tree, plain, indexed}
use Rattle.sourcemap_map_regular.specs.Map.{MapValue}
use Rattle.sourcemap_map_regular.specs.Decode.{RecordDecodes}
use Rattle.sourcemap_index_model.specs.Decode.{Then}
use Rattle.sourcemap_index_model.specs.Flat.{FlatAnswer}
use Rattle.sourcemap_index_model.specs.MapTree.{index_tree}
use Rattle.sourcemap_index.specs.Decode.{IndexDecodes}
use Rattle.sourcemap_check_order.specs.Order.{AreSegmentPlaces, places_back}
use Rattle.sourcemap_check_order.specs.Ranges.{range_doubt}
use Rattle.sourcemap_check_suspicious.specs.declared.reading.TextDoubts.{TextDoubts}
use Rattle.sourcemap_check_suspicious.specs.declared.reading.TextMap.{TextMap}

pub record TextMapValue : Type 0 where
  pub map : MapValue
  pub mappings : List ℕ
  pub ranges : List ℕ

abbrev pub text_map_value : MapValue → (mappings ranges : List ℕ) → TextMapValue
text_map_value m mappings ranges = record { map = m; mappings = mappings; ranges = ranges }

abbrev pub text_or_empty : Option (List ℕ) → List ℕ
text_or_empty None = []
text_or_empty (Some text) = text

-- the regular map of these keys with their texts, or the first error of decoding; scopes are ignored
abbrev pub RegularTextMap : Fields → Result TextMapValue Error → Type 0
RegularTextMap fields (Ok found) = RecordDecodes fields (Ok found.map)
    × (found ≡ text_map_value found.map (text_or_empty fields.mappings) (text_or_empty fields.range_mappings))
RegularTextMap fields (Err e) = RecordDecodes fields (Err e)

-- a flat map has no texts
abbrev pub flat_value : MapValue → TextMapValue
flat_value m = text_map_value m [] []

-- the flat map of the index map that a record decodes to, or the first error of decoding, else of flattening
abbrev pub FlatTextMap : Tree → Result TextMapValue Error → Type 0
FlatTextMap t answer =
    Then (IndexDecodes t) (λ i. Then (FlatAnswer (index_tree i)) (λ m a. a ≡ Ok (flat_value m))) answer

-- the map of a record with its texts, or the first error: a regular map, or the flat map of an index map
abbrev pub TextMapDecodes : Tree → Result TextMapValue Error → Type 0
TextMapDecodes (plain fields) answer = RegularTextMap fields answer
TextMapDecodes (indexed fields sections) answer = FlatTextMap (indexed fields sections) answer

-- the texts of a record without sections
abbrev pub mappings_of : Tree → List ℕ
mappings_of (plain fields) = text_or_empty fields.mappings
mappings_of (indexed fields sections) = []

abbrev pub ranges_of : Tree → List ℕ
ranges_of (plain fields) = text_or_empty fields.range_mappings
ranges_of (indexed fields sections) = []

-- a map with the texts of its record
abbrev pub value_of_tree : Tree → MapValue → TextMapValue
value_of_tree t m = text_map_value m (mappings_of t) (ranges_of t)

-- bytes decode to this map, with some texts
pub record IsMapOf (bytes : List ℕ) (m : MapValue) : Type 0 where
  pub mappings : List ℕ
  pub ranges : List ℕ
  pub decodes : BytesHaveResult TextMapDecodes bytes (Ok (text_map_value m mappings ranges))

-- what looks wrong in these texts
pub record AreTextDoubts (most : ℕ) (mappings ranges : List ℕ) (found : TextDoubts) : Type 0 where
  pub back : AreSegmentPlaces most (places_back mappings) found.back
  pub ranges_are : found.ranges ≡ range_doubt mappings ranges

-- bytes decode to this map, and this looks wrong in its texts
pub record IsTextMapOf (most : ℕ) (bytes : List ℕ) (found : TextMap) : Type 0 where
  pub decoded : IsMapOf bytes found.map
  pub doubts : AreTextDoubts most decoded.mappings decoded.ranges found.doubts
