-- The places of a text are exactly those of its segments that go back.
use Rattle.std.proofs.Common.{◌≡◌, ℕ, zero, suc, ◌+◌, ◌<◌, true, cond, List, [], ◌∷◌, Some, inl, inr}
use Rattle.std.proofs.Common.{sym, ◌∙◌, ap, refl, subst, arith}
use Rattle.std.specs.Prelude.{Contains, slice_get, nat_lt, ◌&&◌}
use Rattle.std.proofs.lemmas.Bool.{and_parts, lt-ltb, ltb-true}
use Rattle.std.proofs.lemmas.List.Elements.{Contains-append_left, Contains-append_right, Contains-append_cases}
use Rattle.sourcemap_check_report.proofs.ElementLemmas.{Contains-none, one_found, found_one}
use Rattle.sourcemap_check_segments.specs.Segments.{page_of}
use Rattle.sourcemap_check_order.specs.declared.order.SegmentPlace.{SegmentPlace}
use Rattle.sourcemap_check_order.specs.Order.{goes_back, line_places, page_places, places_back, IsBack}

abbrev place_at : (n index : ℕ) → SegmentPlace
place_at n index = record { line = n; index = index }

place_is : (place : SegmentPlace) (n index : ℕ) → place.line ≡ n → place.index ≡ index → place_at n index ≡ place
place_is place n index e f = ap (λ m. place_at m index) (sym e) ∙ ap (place_at place.line) (sym f)

-- segment k of successive segments of line n goes back, and has this place
record InLine (n first : ℕ) (segments : List (List ℕ)) (place : SegmentPlace) : Type 0 where
  k : ℕ
  segment : List ℕ
  at : slice_get segments k ≡ Some segment
  line : place.line ≡ n
  index : place.index ≡ first + k
  back : (nat_lt 0 (first + k) && goes_back segment) ≡ true

InLine-from : (n index : ℕ) (segments : List (List ℕ)) (place : SegmentPlace)
    → Contains (line_places n index segments) place → InLine n index segments place
InLine-from n index [] place h = absurd (Contains-none place h)
InLine-from n index (s ∷ later) place h =
    elim (Contains-append_cases (cond (nat_lt 0 index && goes_back s) (place_at n index ∷ []) [])
    (line_places n (index + 1) later) place h) [
      | inl here ↦
          let one = one_found (nat_lt 0 index && goes_back s) (place_at n index) place here in
          let same : index ≡ index + 0 = omega arith in
          record {
            k = 0;
            segment = s;
            at = refl;
            line = sym (ap (λ (p : SegmentPlace). p.line) one.1);
            index = sym (ap (λ (p : SegmentPlace). p.index) one.1) ∙ same;
            back = subst (λ i. (nat_lt 0 i && goes_back s) ≡ true) same one.0;
          }
      | inr rest ↦
          let p = InLine-from n (index + 1) later place rest in
          let same : (index + 1) + p.k ≡ index + suc p.k = omega arith in
          record {
            k = suc p.k;
            segment = p.segment;
            at = p.at;
            line = p.line;
            index = p.index ∙ same;
            back = subst (λ i. (nat_lt 0 i && goes_back p.segment) ≡ true) same p.back;
          }
    ]

found_line : (n index : ℕ) (segments : List (List ℕ)) (place : SegmentPlace) (k : ℕ) (segment : List ℕ)
    → slice_get segments k ≡ Some segment → place.line ≡ n → place.index ≡ index + k
    → (nat_lt 0 (index + k) && goes_back segment) ≡ true → Contains (line_places n index segments) place
found_line n index [] place k segment at line is back = absurd (let e = at in cc)
found_line n index (s ∷ later) place zero segment at line is back =
    let same : segment ≡ s = let e = at in cc in
    let here : index + 0 ≡ index = omega arith in
    Contains-append_left (cond (nat_lt 0 index && goes_back s) (place_at n index ∷ []) [])
    (line_places n (index + 1) later) place
    (found_one (nat_lt 0 index && goes_back s) (place_at n index) place
    (subst (λ t. (nat_lt 0 index && goes_back t) ≡ true) same
    (subst (λ i. (nat_lt 0 i && goes_back segment) ≡ true) here back))
    (place_is place n index line (is ∙ here)))
found_line n index (s ∷ later) place (suc k) segment at line is back =
    let same : index + suc k ≡ (index + 1) + k = omega arith in
    Contains-append_right (cond (nat_lt 0 index && goes_back s) (place_at n index ∷ []) [])
    (line_places n (index + 1) later) place
    (found_line n (index + 1) later place k segment at line (is ∙ same)
    (subst (λ i. (nat_lt 0 i && goes_back segment) ≡ true) same back))

record InPage (n : ℕ) (lines : List (List (List ℕ))) (place : SegmentPlace) : Type 0 where
  j : ℕ
  line : List (List ℕ)
  at : slice_get lines j ≡ Some line
  in_line : InLine (n + j) 0 line place

InPage-from : (n : ℕ) (lines : List (List (List ℕ))) (place : SegmentPlace) → Contains (page_places n lines) place
    → InPage n lines place
InPage-from n [] place h = absurd (Contains-none place h)
InPage-from n (line ∷ lines) place h =
    elim (Contains-append_cases (line_places n 0 line) (page_places (n + 1) lines) place h) [
      | inl here ↦
          let same : n ≡ n + 0 = omega arith in
          record {
            j = 0;
            line = line;
            at = refl;
            in_line = subst (λ m. InLine m 0 line place) same (InLine-from n 0 line place here);
          }
      | inr rest ↦
          let p = InPage-from (n + 1) lines place rest in
          let same : (n + 1) + p.j ≡ n + suc p.j = omega arith in
          record {
            j = suc p.j;
            line = p.line;
            at = p.at;
            in_line = subst (λ m. InLine m 0 p.line place) same p.in_line;
          }
    ]

found_page : (n : ℕ) (lines : List (List (List ℕ))) (place : SegmentPlace) (j : ℕ) (line : List (List ℕ))
    → slice_get lines j ≡ Some line → Contains (line_places (n + j) 0 line) place → Contains (page_places n lines) place
found_page n [] place j line at h = absurd (let e = at in cc)
found_page n (first ∷ lines) place zero line at h =
    let same : line ≡ first = let e = at in cc in
    let here : n + 0 ≡ n = omega arith in
    Contains-append_left (line_places n 0 first) (page_places (n + 1) lines) place
    (subst (λ l. Contains (line_places n 0 l) place) same (subst (λ m. Contains (line_places m 0 line) place) here h))
found_page n (first ∷ lines) place (suc j) line at h =
    let same : n + suc j ≡ (n + 1) + j = omega arith in
    Contains-append_right (line_places n 0 first) (page_places (n + 1) lines) place
    (found_page (n + 1) lines place j line at (subst (λ m. Contains (line_places m 0 line) place) same h))

pub IsBack-found : (text : List ℕ) (place : SegmentPlace) → Contains (places_back text) place → IsBack text place
IsBack-found text place h =
    let p = InPage-from 0 (page_of text) place h in
    let line_is : place.line ≡ p.j = let e = p.in_line.line in omega arith in
    let index_is : place.index ≡ p.in_line.k = let e = p.in_line.index in omega arith in
    let parts = and_parts (nat_lt 0 (0 + p.in_line.k)) (goes_back p.in_line.segment) p.in_line.back in
    let later : 0 < 0 + p.in_line.k = ltb-true 0 (0 + p.in_line.k) parts.0 in
    record {
      line = p.line;
      segment = p.in_line.segment;
      line_at = ap (slice_get (page_of text)) line_is ∙ p.at;
      segment_at = ap (slice_get p.line) index_is ∙ p.in_line.at;
      later = omega (arith, later, index_is);
      back = parts.1;
    }

pub found_back : (text : List ℕ) (place : SegmentPlace) → IsBack text place → Contains (places_back text) place
found_back text place b =
    let later : nat_lt 0 (0 + place.index) ≡ true = lt-ltb 0 (0 + place.index) (let h = b.later in omega arith) in
    found_page 0 (page_of text) place place.line b.line b.line_at
    (found_line (0 + place.line) 0 b.line place place.index b.segment b.segment_at (omega arith) (omega arith)
    (rw (later, b.back) refl))
