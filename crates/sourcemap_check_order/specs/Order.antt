-- The segments of the text `mappings` that go back: those with a lower generated column than the segment before them on
-- their line.
use Rattle.std.specs.Prelude.{◌≡◌, ℕ, ◌+◌, ◌&&◌, Bool, cond, nat_lt, min, List, [], ◌∷◌, ◌++◌, length, take, slice_index}
use Rattle.std.specs.Prelude.{◌<◌, IsTrue, Some, slice_get}
use Rattle.std.specs.Prelude.{pos, int_lt}
use Rattle.sourcemap_check_segments.specs.Segments.{page_of, raws_of, value_of}
use Rattle.sourcemap_check_order.specs.declared.order.SegmentPlace.{SegmentPlace}
use Rattle.sourcemap_check_order.specs.declared.order.SegmentPlaces.{SegmentPlaces}

-- the first number of a segment, the difference of its column to that of the segment before it, is below 0
abbrev pub goes_back : List ℕ → Bool
goes_back segment = int_lt (value_of (slice_index (raws_of segment) 0)) (pos 0)

-- the places of the segments of line n that go back. The first of `segments` has this index on the line; one with the
-- index 0 has no segment before it
abbrev pub line_places : (n index : ℕ) → (segments : List (List ℕ)) → List SegmentPlace
line_places n index [] = []
line_places n index (segment ∷ later) =
    cond (nat_lt 0 index && goes_back segment) (record { line = n; index = index } ∷ []) []
    ++ line_places n (index + 1) later

-- those of successive lines, the first of which is line n
abbrev pub page_places : (n : ℕ) → (lines : List (List (List ℕ))) → List SegmentPlace
page_places n [] = []
page_places n (line ∷ lines) = line_places n 0 line ++ page_places (n + 1) lines

-- the places of all segments of a text that go back
abbrev pub places_back : List ℕ → List SegmentPlace
places_back text = page_places 0 (page_of text)

-- the segment at this place goes back
pub record IsBack (text : List ℕ) (place : SegmentPlace) : Type 0 where
  pub line : List (List ℕ)
  pub segment : List ℕ
  pub line_at : slice_get (page_of text) place.line ≡ Some line
  pub segment_at : slice_get line place.index ≡ Some segment
  pub later : 0 < place.index
  pub back : IsTrue (goes_back segment)

-- the first `most` of these places, and how many there are. The count stops at 18446744073709551615
pub record AreSegmentPlaces (most : ℕ) (all : List SegmentPlace) (places : SegmentPlaces) : Type 0 where
  pub first : places.first.items ≡ take most all
  pub count : places.count ≡ min (length all) 18446744073709551615
