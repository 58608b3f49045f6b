-- What looks wrong in a map with its texts, and beside its generated text, in the order of codes.
use Rattle.std.specs.Prelude.{◌≡◌, ℕ, ◌+◌, ◌≤◌, Bool, true, false, is_some, List, [], ◌∷◌, ◌++◌, cond, flat_map, length, map, min, take}
use Rattle.std.specs.Prelude.{slice_get, Option, Some, Result, Ok, Err}
use Rattle.std.specs.Option.{option_map_or}
use Rattle.sourcemap_errors.specs.declared.errors.Error.{Error}
use Rattle.sourcemap_records.specs.Bytes.{BytesHaveResult}
use Rattle.sourcemap_map_regular.specs.Map.{MapValue}
use Rattle.sourcemap_check_texts.specs.Doubts.{marked, is_doubtful}
use Rattle.sourcemap_check_texts.specs.Generated.{is_misplaced}
pub use Rattle.sourcemap_check_texts.specs.Sources.{Files}
use Rattle.sourcemap_check_links.specs.Links.{other_id, other_reference}
use Rattle.sourcemap_check_lists.specs.Contents.{has_contents_doubt}
use Rattle.sourcemap_check_lists.specs.Lists.{is_doubtful as is_doubtful_item, item_count}
use Rattle.sourcemap_check_lists.specs.declared.lists.ListDoubt.{ListDoubt}
use Rattle.sourcemap_check_lists.specs.declared.lists.ListDoubt.TheVariants.{MissingContents}
use Rattle.sourcemap_check_order.specs.Order.{places_back}
use Rattle.sourcemap_check_order.specs.Ranges.{range_doubt}
use Rattle.sourcemap_check_order.specs.declared.order.SegmentPlace.{SegmentPlace}
use Rattle.sourcemap_check_order.specs.declared.ranges.RangeDoubt.{RangeDoubt}
use Rattle.sourcemap_check_order.specs.declared.ranges.RangeDoubt.TheVariants.{OtherFormat, NoFormat}
use Rattle.sourcemap_check_suspicious.specs.Reading.{TextMapDecodes, TextMapValue}
use Rattle.sourcemap_check_suspicious.specs.Shifted.{AreOff}
use Rattle.sourcemap_check_suspicious.specs.declared.suspects.Suspect.{Suspect}
use Rattle.sourcemap_check_suspicious.specs.declared.suspects.Suspects.{Suspects}
use Rattle.sourcemap_check_suspicious.specs.declared.suspects.Suspicious.{Suspicious}
use Rattle.sourcemap_check_suspicious.specs.declared.suspects.Suspicion.{Suspicion}
use Rattle.sourcemap_check_suspicious.specs.declared.suspects.Suspicion.TheVariants.{Token, Item, SegmentBack, Ranges, OtherDebugId, OtherReference, Contents, Generated}
use Rattle.sourcemap_check_suspicious.specs.declared.suspects.TheConstants.{SUSPICIONS}

-- the token with this index, at its generated position
abbrev pub token_suspect : Suspicion → MapValue → ℕ → Suspect
token_suspect suspicion m i =
    option_map_or (λ t. record { suspicion = suspicion; line = t.dst_line; index = t.dst_col })
    (slice_get m.tokens i) (record { suspicion = suspicion; line = 0; index = 0 })

abbrev pub item_suspect : Suspicion → ℕ → Suspect
item_suspect suspicion i = record { suspicion = suspicion; line = 0; index = i }

abbrev pub segment_suspect : SegmentPlace → Suspect
segment_suspect place = record { suspicion = SegmentBack; line = place.line; index = place.index }

abbrev pub is_range_doubt : RangeDoubt → Option RangeDoubt → Bool
is_range_doubt OtherFormat (Some OtherFormat) = true
is_range_doubt NoFormat (Some NoFormat) = true
is_range_doubt _ _ = false

-- the map has a debug id, and the generated text names another one
abbrev pub has_other_id : MapValue → (generated : Option (List ℕ)) → Bool
has_other_id m generated =
    option_map_or (λ own. option_map_or (λ text. is_some (other_id text own)) generated false) m.debug_id false

-- the reference of the generated text ends in another file name than `name`, that of the map's file
abbrev pub has_other_reference : (generated name : Option (List ℕ)) → Bool
has_other_reference generated name =
    option_map_or (λ text. option_map_or (λ own. is_some (other_reference text own)) name false) generated false

abbrev pub token_suspects : Suspicion → MapValue → (indexes : List ℕ) → List Suspect
token_suspects suspicion m indexes = map (token_suspect suspicion m) indexes

-- the tokens whose index passes a test
abbrev pub suspect_tokens : Suspicion → (ℕ → Bool) → MapValue → List Suspect
suspect_tokens suspicion test m = token_suspects suspicion m (marked test (length m.tokens))

-- files say which sources have neither contents nor a file
abbrev pub is_covered : ListDoubt → Files → Bool
is_covered MissingContents (Some files) = true
is_covered _ _ = false

-- all that looks wrong in one way. Tokens are looked at beside the texts of their sources. Without a generated text nothing
-- looks wrong beside it, without a name no reference does, and without files no contents do
abbrev pub suspects_of : Suspicion → TextMapValue → (generated name : Option (List ℕ)) → Files → List Suspect
suspects_of (Token doubt) m generated name files = suspect_tokens (Token doubt) (is_doubtful doubt m.map files) m.map
suspects_of (Item doubt) m generated name files =
    cond (is_covered doubt files) []
    (map (item_suspect (Item doubt)) (marked (is_doubtful_item doubt m.map) (item_count doubt m.map)))
suspects_of SegmentBack m generated name files = map segment_suspect (places_back m.mappings)
suspects_of (Ranges doubt) m generated name files =
    cond (is_range_doubt doubt (range_doubt m.mappings m.ranges)) (item_suspect (Ranges doubt) 0 ∷ []) []
suspects_of OtherDebugId m generated name files =
    cond (has_other_id m.map generated) (item_suspect OtherDebugId 0 ∷ []) []
suspects_of OtherReference m generated name files =
    cond (has_other_reference generated name) (item_suspect OtherReference 0 ∷ []) []
suspects_of (Contents doubt) m generated name files =
    option_map_or
    (λ texts. map (item_suspect (Contents doubt)) (marked (has_contents_doubt doubt m.map texts) (length m.map.sources)))
    files []
suspects_of (Generated doubt) m generated name files =
    option_map_or (λ text. suspect_tokens (Generated doubt) (is_misplaced doubt text m.map) m.map) generated []

-- the first `most` of these are added, and all of them are counted. The count, a number of 64 bits, stops at
-- 18446744073709551615
pub record Adds (most : ℕ) (all : List Suspect) (old new : Suspects) : Type 0 where
  pub first : new.first.items ≡ old.first.items ++ take most all
  pub count : old.count ≤ 18446744073709551615 → new.count ≡ min (old.count + length all) 18446744073709551615

-- the first `most` of each kind, and how many there are
pub record AreSuspects (most : ℕ) (m : TextMapValue) (generated name : Option (List ℕ)) (files : Files) (found : Suspects) : Type 0 where
  pub first : found.first.items ≡ flat_map (λ suspicion. take most (suspects_of suspicion m generated name files)) SUSPICIONS
  pub count : found.count
      ≡ min (length (flat_map (λ suspicion. suspects_of suspicion m generated name files) SUSPICIONS)) 18446744073709551615

-- nothing looks wrong
pub record HasNone (found : Suspicious) : Type 0 where
  pub first : found.places.first.items ≡ []
  pub count : found.places.count ≡ 0
  pub shifts : found.shifts.items ≡ []

-- what looks wrong in a map: places, and shifts
pub record LooksWrong (most : ℕ) (m : TextMapValue) (generated name : Option (List ℕ)) (files : Files) (found : Suspicious)
    : Type 0 where
  pub places : AreSuspects most m generated name files found.places
  pub shifts : AreOff m.map generated files found.shifts.items

-- what looks wrong in a decoded map; nothing if there is an error
abbrev pub LooksWrongIn : (most : ℕ) → Result TextMapValue Error → (generated name : Option (List ℕ)) → Files → Suspicious → Type 0
LooksWrongIn most (Ok m) generated name files found = LooksWrong most m generated name files found
LooksWrongIn most (Err e) generated name files found = HasNone found

-- what looks wrong in the map that bytes decode to
abbrev pub LooksWrongOf : (most : ℕ) → (bytes : List ℕ) → (generated name : Option (List ℕ)) → Files → Suspicious → Type 0
LooksWrongOf most bytes generated name files found =
    (decoded : Result TextMapValue Error) × BytesHaveResult TextMapDecodes bytes decoded
    × LooksWrongIn most decoded generated name files found
