-- Places of segments, as they are added line by line.
use Rattle.std.proofs.Common.{◌≡◌, ℕ, ◌+◌, ◌<◌, ◌≤◌, ◌==◌, Bool, cond, List, [], ◌∷◌, ◌++◌, map, drop, length}
use Rattle.std.proofs.Common.{get_or, sym, ◌∙◌, ap, refl, subst, append_assoc, arith}
use Rattle.std.specs.Prelude.{nat_lt, ◌&&◌}
use Rattle.std.specs.List.{slice_split}
use Rattle.std.proofs.lemmas.List.{take_all, append-nil, at_drop_more, at_drop_all}
use Rattle.sourcemap_check_segments.specs.Segments.{segments_of, comma}
use Rattle.sourcemap_check_order.specs.declared.order.SegmentPlace.{SegmentPlace}
use Rattle.sourcemap_check_order.specs.declared.order.SegmentPlaces.{SegmentPlaces}
use Rattle.sourcemap_check_order.specs.Order.{goes_back, line_places, page_places, AreSegmentPlaces}

pub SegmentPlaces-none : (most : ℕ) (places : SegmentPlaces) → places.first.items ≡ [] → places.count ≡ 0
    → AreSegmentPlaces most [] places
SegmentPlaces-none most places items count = record {
  first = items ∙ sym (take_all most [] (omega arith));
  count = count;
}

-- A line and a page up to a place.

pub record LineSoFar (most : ℕ) (all : List SegmentPlace) (n : ℕ) (segments : List (List ℕ)) (index : ℕ)
    (places : SegmentPlaces) : Type 0 where
  pub found : List SegmentPlace
  pub places_are : AreSegmentPlaces most found places
  pub rest : found ++ line_places n index (drop index segments) ≡ all ++ line_places n 0 segments

pub LineSoFar-none : (most : ℕ) (all : List SegmentPlace) (n : ℕ) (segments : List (List ℕ)) (places : SegmentPlaces)
    → AreSegmentPlaces most all places → LineSoFar most all n segments 0 places
LineSoFar-none most all n segments places h = record { found = all; places_are = h; rest = refl }

pub LineSoFar-more : (most : ℕ) (all : List SegmentPlace) (n : ℕ) (segments : List (List ℕ)) (index : ℕ)
    (segment : List ℕ) (is_back : Bool) (old new : SegmentPlaces)
    → (so_far : LineSoFar most all n segments index old)
    → index < length segments → segment ≡ get_or segments index segment → is_back ≡ (nat_lt 0 index && goes_back segment)
    → AreSegmentPlaces most (so_far.found ++ cond is_back (record { line = n; index = index } ∷ []) []) new
    → LineSoFar most all n segments (index + 1) new
LineSoFar-more most all n segments index segment is_back old new so_far within at is places =
    let step : line_places n index (drop index segments)
    ≡ cond (nat_lt 0 index && goes_back segment) (record { line = n; index = index } ∷ []) []
    ++ line_places n (index + 1) (drop (index + 1) segments) =
    at_drop_more (line_places n index) segments index segment within
    ∙ ap (λ s. cond (nat_lt 0 index && goes_back s) (record { line = n; index = index } ∷ []) []
    ++ line_places n (index + 1) (drop (index + 1) segments)) (sym at) in
    let marked : cond is_back (record { line = n; index = index } ∷ []) []
    ≡ cond (nat_lt 0 index && goes_back segment) (record { line = n; index = index } ∷ []) [] =
    ap (λ b. cond b (record { line = n; index = index } ∷ []) []) is in
    record {
      found = so_far.found ++ cond is_back (record { line = n; index = index } ∷ []) [];
      places_are = places;
      rest = append_assoc so_far.found (cond is_back (record { line = n; index = index } ∷ []) [])
          (line_places n (index + 1) (drop (index + 1) segments))
          ∙ (ap (λ ps. so_far.found ++ ps) (ap (λ ps. ps ++ line_places n (index + 1) (drop (index + 1) segments)) marked
          ∙ sym step) ∙ so_far.rest);
    }

-- an empty line has no segments; its one part, an empty one, does not go back
parts_places : (n : ℕ) (text : List ℕ)
    → line_places n 0 (slice_split (λ b. b == comma) text) ≡ line_places n 0 (segments_of text)
parts_places n [] = refl
parts_places n (c ∷ cs) = refl

pub LineSoFar-all : (most : ℕ) (all : List SegmentPlace) (n : ℕ) (text : List ℕ) (index : ℕ) (places : SegmentPlaces)
    → LineSoFar most all n (slice_split (λ b. b == comma) text) index places
    → length (slice_split (λ b. b == comma) text) ≤ index
    → AreSegmentPlaces most (all ++ line_places n 0 (segments_of text)) places
LineSoFar-all most all n text index places so_far past =
    let none = at_drop_all (line_places n index) (slice_split (λ b. b == comma) text) index past in
    let all_of : so_far.found ≡ all ++ line_places n 0 (segments_of text) =
    sym (append-nil so_far.found) ∙ (ap (λ ps. so_far.found ++ ps) (sym none)
    ∙ (so_far.rest ∙ ap (λ ps. all ++ ps) (parts_places n text))) in
    subst (λ ps. AreSegmentPlaces most ps places) all_of so_far.places_are

pub record PageSoFar (most : ℕ) (lines : List (List ℕ)) (n : ℕ) (places : SegmentPlaces) : Type 0 where
  pub found : List SegmentPlace
  pub places_are : AreSegmentPlaces most found places
  pub rest : found ++ page_places n (map segments_of (drop n lines)) ≡ page_places 0 (map segments_of lines)

pub PageSoFar-none : (most : ℕ) (lines : List (List ℕ)) (places : SegmentPlaces) → AreSegmentPlaces most [] places
    → PageSoFar most lines 0 places
PageSoFar-none most lines places h = record { found = []; places_are = h; rest = refl }

pub PageSoFar-more : (most : ℕ) (lines : List (List ℕ)) (n : ℕ) (line : List ℕ) (old new : SegmentPlaces)
    → (so_far : PageSoFar most lines n old) → n < length lines → line ≡ get_or lines n line
    → AreSegmentPlaces most (so_far.found ++ line_places n 0 (segments_of line)) new
    → PageSoFar most lines (n + 1) new
PageSoFar-more most lines n line old new so_far within at places =
    let step : page_places n (map segments_of (drop n lines))
    ≡ line_places n 0 (segments_of line) ++ page_places (n + 1) (map segments_of (drop (n + 1) lines)) =
    at_drop_more (λ ls. page_places n (map segments_of ls)) lines n line within
    ∙ ap (λ l. line_places n 0 (segments_of l) ++ page_places (n + 1) (map segments_of (drop (n + 1) lines))) (sym at) in
    record {
      found = so_far.found ++ line_places n 0 (segments_of line);
      places_are = places;
      rest = append_assoc so_far.found (line_places n 0 (segments_of line))
          (page_places (n + 1) (map segments_of (drop (n + 1) lines)))
          ∙ (ap (λ ps. so_far.found ++ ps) (sym step) ∙ so_far.rest);
    }

pub PageSoFar-all : (most : ℕ) (lines : List (List ℕ)) (n : ℕ) (places : SegmentPlaces) → PageSoFar most lines n places
    → length lines ≤ n → AreSegmentPlaces most (page_places 0 (map segments_of lines)) places
PageSoFar-all most lines n places so_far past =
    let none = at_drop_all (λ ls. page_places n (map segments_of ls)) lines n past in
    let all_of : so_far.found ≡ page_places 0 (map segments_of lines) =
    sym (append-nil so_far.found) ∙ (ap (λ ps. so_far.found ++ ps) (sym none) ∙ so_far.rest) in
    subst (λ ps. AreSegmentPlaces most ps places) all_of so_far.places_are
