-- Numbers that are moved, landmarks one after another, and the best shift of those tried so far.
use Rattle.std.proofs.Common.{◌≡◌, ℕ, ◌+◌, ◌<◌, ◌≤◌, Bool, cond, nat_lt, List, [], ◌∷◌, ◌++◌, length, map, take, drop, ℤ, pos}
use Rattle.std.proofs.Common.{Option, Some, None, option_map, option_to_list, sym, ◌∙◌, ap, refl, subst, arith, inl, inr}
use Rattle.std.proofs.Common.{zero, suc, ◌==◌, false, of_z, to_z, append-nil, get_or, slice_get, count_by, filter_map, take_while}
use Rattle.std.specs.List.{cons_option, IsFirstMaxByKey}
use Rattle.std.proofs.lemmas.Bool.{cases_lt, cond-true, lt-ltb}
use Rattle.std.proofs.lemmas.List.{length-map, length-append, length-take-le, take_all, take-append-le, take_more}
use Rattle.std.proofs.lemmas.List.Elements.{filter_map-append}
use Rattle.std.proofs.lemmas.List.Folds.{fold-map, length-prefix_len}
use Rattle.std.proofs.lemmas.List.Sums.{best_none, best_keeps, best_takes}
use Rattle.std.proofs.lemmas.Option.{slice_get_within, get_or_from_slice_get, none-some, same_Some}
use Rattle.std.proofs.lemmas.Option.{slice_get-map, slice_get-get_or}
use mir.Syntax.{w32}
use Rattle.sourcemap_tokens.specs.declared.tokens.RawToken.{RawToken}
use Rattle.sourcemap_source_views.specs.Columns.{column_offset}
use Rattle.sourcemap_map_regular.specs.Map.{MapValue}
use Rattle.sourcemap_map_regular.specs.Token.{token_at}
use Rattle.sourcemap_check_texts.specs.declared.shifts.Shift.{Shift}
use Rattle.sourcemap_check_texts.specs.declared.shifts.Matches.{Matches}
use Rattle.sourcemap_check_texts.specs.declared.shifts.Landmark.{Landmark}
use Rattle.sourcemap_check_texts.specs.declared.shifts.TheConstants.{SHIFTS}
use Rattle.sourcemap_check_texts.specs.Shifts.{AreFirst, AreMatches, LandmarkValue, is_word_byte, landmark_of}
use Rattle.sourcemap_check_texts.specs.Shifts.{landmark_value, landmark_values, matches, shift_of, stands, word_at}
use Rattle.sourcemap_check_texts.specs.Sources.{Files}
use Rattle.sourcemap_check_texts.proofs.PlaceLemmas.{past_tokens}

-- ---- counts

pub matches_are : (landmarks : List Landmark) (s : Shift)
    → count_by (λ l. stands (landmark_value l) s) landmarks ≡ matches (landmark_values landmarks) s
matches_are landmarks s =
    sym (fold-map (λ (a : ℕ) (l : LandmarkValue). a + cond (stands l s) 1 0) landmark_value 0 landmarks)

-- ---- words

word_is : (p : ℕ → Bool) (xs : List ℕ) → take (length (take_while p xs)) xs ≡ take_while p xs
word_is p xs = ap (λ n. take n xs) (length-prefix_len p xs)

pub word_found : (line rest : List ℕ) (column offset n : ℕ) → column < 4096 → Some offset ≡ column_offset line column
    → rest ≡ take 64 (drop offset line) → n ≡ length (take_while is_word_byte rest)
    → Some (take n rest) ≡ word_at line column
word_found line rest column offset n near at is long =
    let word = λ (o : ℕ). take_while is_word_byte (take 64 (drop o line)) in
    ap (λ k. Some (take k rest)) long ∙ ap Some (word_is is_word_byte rest)
    ∙ ap (λ t. Some (take_while is_word_byte t)) is ∙ ap (option_map word) at
    ∙ sym (cond-true (nat_lt column 4096) (option_map word (column_offset line column)) None (lt-ltb column 4096 near))

-- ---- landmarks

cons_one : {Y : Type 0} (o : Option Y) → cons_option o [] ≡ option_to_list o
cons_one None = refl
cons_one (Some y) = refl

one_of : {X Y : Type 0} (h : X → Option Y) (x : X) → filter_map h (x ∷ []) ≡ option_to_list (h x)
one_of h x = cons_one (h x)

one_more : {X : Type 0} (xs : List X) (i : ℕ) (x : X) → slice_get xs i ≡ Some x → take (i + 1) xs ≡ take i xs ++ x ∷ []
one_more xs i x e =
    take_more xs i x (slice_get_within xs i x e) ∙ ap (λ y. take i xs ++ y ∷ []) (get_or_from_slice_get xs i x x e)

found_more : (generated : Option (List ℕ)) (m : MapValue) (files : Files) (index : ℕ) (raw : RawToken)
    → slice_get m.tokens index ≡ Some raw → filter_map (landmark_of generated m files) (take (index + 1) m.tokens)
    ≡ filter_map (landmark_of generated m files) (take index m.tokens) ++ option_to_list (landmark_of generated m files raw)
found_more generated m files index raw at =
    let h = landmark_of generated m files in
    ap (filter_map h) (one_more m.tokens index raw at) ∙ filter_map-append h (take index m.tokens) (raw ∷ [])
    ∙ ap (λ t. filter_map h (take index m.tokens) ++ t) (one_of h raw)

short_take : {X : Type 0} (most : ℕ) (xs : List X) → length (take most xs) < most → length xs < most
short_take most xs l =
    elim (cases_lt (length xs) most) [
      | inl below ↦ below
      | inr above ↦ absurd (let e = length-take-le most xs above in omega arith)
    ]

long_take : {X : Type 0} (most : ℕ) (xs : List X) → most ≤ length (take most xs) → most ≤ length xs
long_take most xs l =
    elim (cases_lt (length xs) most) [
      | inl below ↦ absurd (let e = ap length (take_all most xs (omega arith)) in omega arith)
      | inr above ↦ above
    ]

map_push : (found : List Landmark) (landmark : Landmark)
    → landmark_values (found ++ landmark ∷ []) ≡ landmark_values found ++ landmark_value landmark ∷ []
map_push [] landmark = refl
map_push (l ∷ found) landmark = ap (λ t. landmark_value l ∷ t) (map_push found landmark)

pub first_none : (most : ℕ) (all : List LandmarkValue) (found : List Landmark) → AreFirst most all found
    → AreFirst most (all ++ []) found
first_none most all found are = subst (λ xs. AreFirst most xs found) (sym (append-nil all)) are

pub first_full : (most : ℕ) (all more : List LandmarkValue) (found : List Landmark) → AreFirst most all found
    → most ≤ length found → AreFirst most (all ++ more) found
first_full most all more found first many =
    let long : most ≤ length all =
    long_take most all (subst (λ n. most ≤ n) (sym (length-map found landmark_value) ∙ ap length first.are) many) in
    record { are = first.are ∙ sym (take-append-le most all more long) }

pub first_pushed : (most : ℕ) (all : List LandmarkValue) (landmark : Landmark) (found new : List Landmark)
    → AreFirst most all found → length found < most → new ≡ found ++ landmark ∷ []
    → AreFirst most (all ++ landmark_value landmark ∷ []) new
first_pushed most all landmark found new first few items =
    let v = landmark_value landmark in
    let long : length (take most all) < most =
    subst (λ n. n < most) (sym (length-map found landmark_value) ∙ ap length first.are) few in
    let short = short_take most all long in
    let more = length-append all (v ∷ []) in
    record {
      are = ap landmark_values items ∙ map_push found landmark
          ∙ ap (λ t. t ++ v ∷ []) (first.are ∙ take_all most all (omega arith))
          ∙ sym (take_all most (all ++ v ∷ []) (omega (arith, more)));
    }

-- the landmarks of the tokens before an index were found
pub record LandmarksSoFar (most : ℕ) (generated : Option (List ℕ)) (m : MapValue) (files : Files) (index : ℕ)
    (found : List Landmark) : Type 0 where
  pub within : index ≤ length m.tokens
  pub are : AreFirst most (filter_map (landmark_of generated m files) (take index m.tokens)) found

pub LandmarksSoFar-none : (most : ℕ) (generated : Option (List ℕ)) (m : MapValue) (files : Files) (found : List Landmark)
    → found ≡ [] → LandmarksSoFar most generated m files 0 found
LandmarksSoFar-none most generated m files found e = record {
  within = omega arith;
  are = record { are = ap landmark_values e ∙ sym (take_all most [] (omega arith)) };
}

pub LandmarksSoFar-more : (most : ℕ) (generated : Option (List ℕ)) (m : MapValue) (files : Files) (index : ℕ)
    (raw : RawToken) (found new : List Landmark) → LandmarksSoFar most generated m files index found → slice_get m.tokens index ≡ Some raw
    → AreFirst most (filter_map (landmark_of generated m files) (take index m.tokens)
    ++ option_to_list (landmark_of generated m files raw)) new → LandmarksSoFar most generated m files (index + 1) new
LandmarksSoFar-more most generated m files index raw found new so_far at are =
    let inside = slice_get_within m.tokens index raw at in
    record {
      within = omega (arith, inside);
      are = subst (λ xs. AreFirst most xs new) (sym (found_more generated m files index raw at)) are;
    }

pub LandmarksSoFar-all : (most : ℕ) (generated : Option (List ℕ)) (m : MapValue) (files : Files) (index : ℕ)
    (found : List Landmark) → LandmarksSoFar most generated m files index found → None ≡ token_at m index
    → landmark_values found ≡ take most (filter_map (landmark_of generated m files) m.tokens)
LandmarksSoFar-all most generated m files index found so_far past =
    let end = past_tokens m index past in
    so_far.are.are ∙ ap (λ ts. take most (filter_map (landmark_of generated m files) ts)) (take_all index m.tokens end)

-- ---- the best shift

-- the counts after the best of the first shifts
pub record BestSoFar (landmarks : List LandmarkValue) (tried : ℕ) (m : Matches) : Type 0 where
  pub looked_at : m.looked_at ≡ length landmarks
  pub unshifted : m.unshifted ≡ matches landmarks (shift_of (pos 0, pos 0))
  pub shifted : m.shifted ≡ matches landmarks m.shift
  pub index : ℕ
  pub is_tried : option_map shift_of (slice_get SHIFTS index) ≡ Some m.shift
  pub is_best : IsFirstMaxByKey (λ p. matches landmarks (shift_of p)) SHIFTS tried index

pub BestSoFar-none : (landmarks : List LandmarkValue) (m : Matches)
    → option_map shift_of (slice_get SHIFTS 0) ≡ Some m.shift → m.looked_at ≡ length landmarks
    → m.unshifted ≡ matches landmarks m.shift → m.shifted ≡ matches landmarks m.shift → BestSoFar landmarks 1 m
BestSoFar-none landmarks m at looked unshifted shifted =
    let none : m.shift ≡ shift_of (pos 0, pos 0) = same_Some _ _ (sym at) in
    record {
      looked_at = looked;
      unshifted = unshifted ∙ ap (matches landmarks) none;
      shifted = shifted;
      index = 0;
      is_tried = at;
      is_best = best_none (λ p. matches landmarks (shift_of p)) SHIFTS;
    }

-- the numbers of the shifts fit 32 bits
shifts_fit : map (λ p. (to_z w32 (of_z w32 p.0), to_z w32 (of_z w32 p.1))) SHIFTS ≡ SHIFTS
shifts_fit = refl

pub shift_found : (i : ℕ) (d : ℤ × ℤ) → i < 41 → option_map shift_of (slice_get SHIFTS i)
    ≡ Some (record { lines = to_z w32 (of_z w32 (get_or SHIFTS i d).0); columns = to_z w32 (of_z w32 (get_or SHIFTS i d).1) })
shift_found i d l =
    let through : ℤ × ℤ → ℤ × ℤ = λ p. (to_z w32 (of_z w32 p.0), to_z w32 (of_z w32 p.1)) in
    ap (λ xs. option_map shift_of (slice_get xs i)) (sym shifts_fit)
    ∙ ap (option_map shift_of) (slice_get-map through SHIFTS i)
    ∙ ap (λ o. option_map shift_of (option_map through o)) (slice_get-get_or SHIFTS i d l)

pub positive : (n : ℕ) → (n == 0) ≡ false → 0 < n
positive zero e = absurd (let h = e in cc)
positive (suc n) e = omega arith

from_map : {X Y : Type 0} (f : X → Y) (o : Option X) (y : Y) → option_map f o ≡ Some y
    → (x : X) × (o ≡ Some x) × (f x ≡ y)
from_map f None y e = absurd (none-some y e)
from_map f (Some x) y e = (x, refl, same_Some (f x) y e)

-- the count at the index of a shift is that of the shift
count_at : (landmarks : List LandmarkValue) (i : ℕ) (s : Shift) (d : ℤ × ℤ)
    → option_map shift_of (slice_get SHIFTS i) ≡ Some s
    → matches landmarks (shift_of (get_or SHIFTS i d)) ≡ matches landmarks s
count_at landmarks i s d e =
    let found = from_map shift_of (slice_get SHIFTS i) s e in
    ap (λ p. matches landmarks (shift_of p)) (get_or_from_slice_get SHIFTS i found.0 d found.1)
    ∙ ap (matches landmarks) found.2

pub BestSoFar-keeps : (landmarks : List LandmarkValue) (tried count : ℕ) (next : Shift) (best new : Matches)
    → BestSoFar landmarks tried best → option_map shift_of (slice_get SHIFTS tried) ≡ Some next
    → count ≡ matches landmarks next → count ≤ best.shifted → (new.shift ≡ best.shift) × (new.shifted ≡ best.shifted)
    → (new.looked_at ≡ best.looked_at) × (new.unshifted ≡ best.unshifted) → BestSoFar landmarks (tried + 1) new
BestSoFar-keeps landmarks tried count next best new so_far at e l same counts = record {
  looked_at = counts.0 ∙ so_far.looked_at;
  unshifted = counts.1 ∙ so_far.unshifted;
  shifted = same.1 ∙ so_far.shifted ∙ ap (matches landmarks) (sym same.0);
  index = so_far.index;
  is_tried = so_far.is_tried ∙ ap Some (sym same.0);
  is_best = best_keeps (λ p. matches landmarks (shift_of p)) SHIFTS tried so_far.index so_far.is_best (λ d.
      let here = count_at landmarks tried next d at in
      let there = count_at landmarks so_far.index best.shift d so_far.is_tried in
      let is = so_far.shifted in
      omega arith);
}

pub BestSoFar-takes : (landmarks : List LandmarkValue) (tried count : ℕ) (next : Shift) (best new : Matches)
    → BestSoFar landmarks tried best → option_map shift_of (slice_get SHIFTS tried) ≡ Some next
    → count ≡ matches landmarks next → best.shifted < count → (new.shift ≡ next) × (new.shifted ≡ count)
    → (new.looked_at ≡ best.looked_at) × (new.unshifted ≡ best.unshifted) → BestSoFar landmarks (tried + 1) new
BestSoFar-takes landmarks tried count next best new so_far at e l same counts = record {
  looked_at = counts.0 ∙ so_far.looked_at;
  unshifted = counts.1 ∙ so_far.unshifted;
  shifted = same.1 ∙ e ∙ ap (matches landmarks) (sym same.0);
  index = tried;
  is_tried = at ∙ ap Some (sym same.0);
  is_best = best_takes (λ p. matches landmarks (shift_of p)) SHIFTS tried so_far.index so_far.is_best (λ d.
      let here = count_at landmarks tried next d at in
      let there = count_at landmarks so_far.index best.shift d so_far.is_tried in
      let is = so_far.shifted in
      omega arith);
}

pub BestSoFar-more : (landmarks : List LandmarkValue) (tried count : ℕ) (next : Shift) (best new : Matches)
    → BestSoFar landmarks tried best → option_map shift_of (slice_get SHIFTS tried) ≡ Some next
    → count ≡ matches landmarks next → (best.shifted < count → (new.shift ≡ next) × (new.shifted ≡ count))
    → (count ≤ best.shifted → (new.shift ≡ best.shift) × (new.shifted ≡ best.shifted))
    → (new.looked_at ≡ best.looked_at) × (new.unshifted ≡ best.unshifted) → BestSoFar landmarks (tried + 1) new
BestSoFar-more landmarks tried count next best new so_far at e taken kept counts =
    elim (cases_lt best.shifted count) [
      | inl l ↦ BestSoFar-takes landmarks tried count next best new so_far at e l (taken l) counts
      | inr g ↦ BestSoFar-keeps landmarks tried count next best new so_far at e g (kept g) counts
    ]

pub BestSoFar-all : (landmarks : List LandmarkValue) (tried : ℕ) (m : Matches) → BestSoFar landmarks tried m
    → tried ≡ length SHIFTS → 0 < m.looked_at → AreMatches landmarks m
BestSoFar-all landmarks tried m so_far all some = record {
  some = some;
  looked_at = so_far.looked_at;
  unshifted = so_far.unshifted;
  shifted = so_far.shifted;
  index = so_far.index;
  is_tried = so_far.is_tried;
  is_best = subst (λ n. IsFirstMaxByKey (λ p. matches landmarks (shift_of p)) SHIFTS n so_far.index) all so_far.is_best;
}
