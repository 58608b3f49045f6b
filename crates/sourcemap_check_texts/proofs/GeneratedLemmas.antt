-- Tokens one after another, and the spots of their generated positions.
use Rattle.std.proofs.Common.{◌≡◌, ℕ, ◌+◌, ◌≤◌, Bool, false, cond, List, [], ◌∷◌, ◌++◌, length, Some, None}
use Rattle.std.proofs.Common.{sym, ◌∙◌, ap, subst, arith, add-one, nat_lt}
use Rattle.std.specs.Prelude.{slice_get}
use Rattle.std.specs.Option.{option_map_or}
use Rattle.std.proofs.lemmas.Option.{slice_get_within}
use Rattle.sourcemap_source_views.specs.Columns.{IsOffset}
use Rattle.sourcemap_tokens.specs.declared.tokens.RawToken.{RawToken}
use Rattle.sourcemap_map_regular.specs.Map.{MapValue}
use Rattle.sourcemap_map_regular.specs.Token.{token_at}
use Rattle.sourcemap_check_texts.specs.declared.tokens.Places.{Places}
use Rattle.sourcemap_check_texts.specs.declared.generated.GeneratedDoubt.{GeneratedDoubt}
use Rattle.sourcemap_check_texts.specs.declared.spots.Spot.{Spot}
use Rattle.sourcemap_check_texts.specs.Doubts.{ArePlaces, marked, is_past_line, splits_pair}
use Rattle.sourcemap_check_texts.specs.Generated.{IsSpotOf, generated_line, is_misplaced, misses_text}
use Rattle.sourcemap_check_texts.proofs.PlaceLemmas.{Places-none, past_tokens}
use Rattle.sourcemap_check_texts.proofs.SpotLemmas.{past_line_at, splits_pair_at}

-- ---- one token

pub past_line_is : (text : List ℕ) (t : RawToken) (spot : Spot) → IsSpotOf text t spot
    → nat_lt spot.at.units t.dst_col ≡ option_map_or (λ line. is_past_line line t.dst_col) (generated_line text t) false
past_line_is text t spot is =
    past_line_at spot.line.now t.dst_col spot.at.offset spot.at.units is.at
    ∙ sym (ap (λ o. option_map_or (λ line. is_past_line line t.dst_col) o false) is.line)

pub splits_pair_is : (text : List ℕ) (t : RawToken) (spot : Spot) → IsOffset spot.line.now spot.at.offset spot.at.units
    → IsSpotOf text t spot
    → nat_lt t.dst_col spot.at.units ≡ option_map_or (λ line. splits_pair line t.dst_col) (generated_line text t) false
splits_pair_is text t spot sound is =
    splits_pair_at spot.line.now t.dst_col spot.at.offset spot.at.units is.at sound
    ∙ sym (ap (λ o. option_map_or (λ line. splits_pair line t.dst_col) o false) is.line)

-- ---- the loop

-- the tokens before an index were looked at
pub record PositionsSoFar (most : ℕ) (doubt : GeneratedDoubt) (text : List ℕ) (m : MapValue) (index : ℕ) (places : Places)
    : Type 0 where
  pub within : index ≤ length m.tokens
  pub places_are : ArePlaces most (marked (is_misplaced doubt text m) index) places
  pub few : places.count ≤ index

pub PositionsSoFar-none : (most : ℕ) (doubt : GeneratedDoubt) (text : List ℕ) (m : MapValue) (places : Places)
    → places.first.items ≡ [] → places.count ≡ 0 → PositionsSoFar most doubt text m 0 places
PositionsSoFar-none most doubt text m places items count = record {
  within = omega arith;
  places_are = Places-none most places items count;
  few = omega arith;
}

pub PositionsSoFar-more : (most : ℕ) (doubt : GeneratedDoubt) (text : List ℕ) (m : MapValue) (index : ℕ) (raw : RawToken)
    (holds : Bool) (placed : ℕ) (old new : Places) → PositionsSoFar most doubt text m index old
    → slice_get m.tokens index ≡ Some raw → holds ≡ misses_text doubt text raw → placed ≡ index
    → ArePlaces most (marked (is_misplaced doubt text m) index ++ cond holds (placed ∷ []) []) new
    → new.count ≤ placed + 1 → PositionsSoFar most doubt text m (index + 1) new
PositionsSoFar-more most doubt text m index raw holds placed old new so_far at holds_is placed_is places few =
    let inside = slice_get_within m.tokens index raw at in
    let test_is : is_misplaced doubt text m index ≡ holds =
    ap (λ o. option_map_or (λ t. misses_text doubt text t) o false) at ∙ sym holds_is in
    let same : marked (is_misplaced doubt text m) index ++ cond holds (placed ∷ []) []
    ≡ marked (is_misplaced doubt text m) (index + 1) =
    ap (λ h. marked (is_misplaced doubt text m) index ++ cond h (placed ∷ []) []) (sym test_is)
    ∙ (ap (λ p. marked (is_misplaced doubt text m) index ++ cond (is_misplaced doubt text m index) (p ∷ []) []) placed_is
    ∙ sym (ap (marked (is_misplaced doubt text m)) (add-one index))) in
    record {
      within = omega (arith, inside);
      places_are = subst (λ ks. ArePlaces most ks new) same places;
      few = omega arith;
    }

pub PositionsSoFar-all : (most : ℕ) (doubt : GeneratedDoubt) (text : List ℕ) (m : MapValue) (index : ℕ) (places : Places)
    → PositionsSoFar most doubt text m index places → None ≡ token_at m index
    → ArePlaces most (marked (is_misplaced doubt text m) (length m.tokens)) places
PositionsSoFar-all most doubt text m index places so_far past =
    let end = past_tokens m index past in
    let same : index ≡ length m.tokens = let within = so_far.within in omega arith in
    subst (λ n. ArePlaces most (marked (is_misplaced doubt text m) n) places) same so_far.places_are
