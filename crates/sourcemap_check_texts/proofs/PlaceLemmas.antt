-- Tokens one after another, and the indexes at which a test holds.
use Rattle.std.proofs.Common.{◌≡◌, ℕ, zero, suc, ◌+◌, ◌<◌, ◌≤◌, Bool, false, cond, List, [], ◌∷◌, ◌++◌, take, length}
use Rattle.std.proofs.Common.{sym, ◌∙◌, ap, refl, subst, arith, Option, Some, None, option_map, add-one}
use Rattle.std.specs.Prelude.{slice_get}
use Rattle.std.specs.Option.{option_map_or}
use Rattle.std.proofs.lemmas.Option.{slice_get_within}
use Rattle.std.proofs.lemmas.List.{length_push, take_all, take-append-le}
use Rattle.sourcemap_tokens.specs.declared.tokens.RawToken.{RawToken}
use Rattle.sourcemap_map_regular.specs.Map.{MapValue, TokenValue}
use Rattle.sourcemap_map_regular.specs.Token.{token_at}
use Rattle.sourcemap_check_texts.specs.declared.tokens.Doubt.{Doubt}
use Rattle.sourcemap_check_texts.specs.declared.tokens.Places.{Places}
use Rattle.sourcemap_check_texts.specs.Doubts.{ArePlaces, marked, is_doubtful, looks_wrong, token_before}
use Rattle.sourcemap_check_texts.specs.Sources.{Files}

-- ---- the token at an index

token_is : (m : MapValue) (i : ℕ) (o : Option RawToken) (v : TokenValue)
    → Some v ≡ option_map (λ raw. record { map_of = m; raw = raw; index = i; extra_columns = 0 }) o
    → (o ≡ Some v.raw) × (v.index ≡ i)
token_is m i None v e = absurd (let h = e in cc)
token_is m i (Some raw) v e =
    let same : v ≡ record { map_of = m; raw = raw; index = i; extra_columns = 0 } = let h = e in cc in
    (ap Some (sym (ap (λ (w : TokenValue). w.raw) same)), ap (λ (w : TokenValue). w.index) same)

pub token_found : (m : MapValue) (i : ℕ) (v : TokenValue) → Some v ≡ token_at m i
    → (slice_get m.tokens i ≡ Some v.raw) × (v.index ≡ i)
token_found m i v e = token_is m i (slice_get m.tokens i) v e

none_past : {X : Type 0} (xs : List X) (i : ℕ) → slice_get xs i ≡ None → length xs ≤ i
none_past [] i e = omega arith
none_past (x ∷ xs) zero e = absurd (let h = e in cc)
none_past (x ∷ xs) (suc i) e = let rest = none_past xs i e in omega arith

no_value : {A B : Type 0} (make : A → B) (o : Option A) → None ≡ option_map make o → o ≡ None
no_value make None e = refl
no_value make (Some x) e = absurd (let h = e in cc)

pub past_tokens : (m : MapValue) (i : ℕ) → None ≡ token_at m i → length m.tokens ≤ i
past_tokens m i e = none_past m.tokens i (no_value _ (slice_get m.tokens i) e)

-- ---- places

pub Places-none : (most : ℕ) (places : Places) → places.first.items ≡ [] → places.count ≡ 0 → ArePlaces most [] places
Places-none most places items count = record {
  first = items ∙ sym (take_all most [] (omega arith));
  count = count;
}

pub Places-kept : (most : ℕ) (all : List ℕ) (index : ℕ) (old new : Places) → ArePlaces most all old
    → old.count < most → new.first.items ≡ old.first.items ++ index ∷ [] → new.count ≡ old.count + 1
    → ArePlaces most (all ++ index ∷ []) new
Places-kept most all index old new places few items count =
    let c = places.count in
    let long = length_push all index in
    let before : take most all ≡ all = take_all most all (omega arith) in
    let after : take most (all ++ index ∷ []) ≡ all ++ index ∷ [] = take_all most (all ++ index ∷ []) (omega arith) in
    record {
      first = items ∙ (ap (λ xs. xs ++ index ∷ []) (places.first ∙ before) ∙ sym after);
      count = (omega (arith, count, c, long));
    }

pub Places-counted : (most : ℕ) (all : List ℕ) (index : ℕ) (old new : Places) → ArePlaces most all old
    → most ≤ old.count → new.first.items ≡ old.first.items → new.count ≡ old.count + 1
    → ArePlaces most (all ++ index ∷ []) new
Places-counted most all index old new places many items count =
    let c = places.count in
    let long = length_push all index in
    record {
      first = items ∙ (places.first ∙ sym (take-append-le most all (index ∷ []) (omega arith)));
      count = (omega (arith, count, c, long));
    }

-- ---- the loop

pub record TokensSoFar (most : ℕ) (doubt : Doubt) (m : MapValue) (files : Files) (index : ℕ) (before : Option RawToken)
    (places : Places) : Type 0 where
  pub within : index ≤ length m.tokens
  pub before_is : before ≡ token_before m index
  pub places_are : ArePlaces most (marked (is_doubtful doubt m files) index) places
  pub few : places.count ≤ index

pub TokensSoFar-none : (most : ℕ) (doubt : Doubt) (m : MapValue) (files : Files) (places : Places) → places.first.items ≡ []
    → places.count ≡ 0 → TokensSoFar most doubt m files 0 None places
TokensSoFar-none most doubt m files places items count = record {
  within = omega arith;
  before_is = refl;
  places_are = Places-none most places items count;
  few = omega arith;
}

pub TokensSoFar-more : (most : ℕ) (doubt : Doubt) (m : MapValue) (files : Files) (index : ℕ) (before : Option RawToken)
    (raw : RawToken) (holds : Bool) (placed : ℕ) (old new : Places) → TokensSoFar most doubt m files index before old
    → slice_get m.tokens index ≡ Some raw → holds ≡ looks_wrong doubt m files before raw → placed ≡ index
    → ArePlaces most (marked (is_doubtful doubt m files) index ++ cond holds (placed ∷ []) []) new → new.count ≤ placed + 1
    → TokensSoFar most doubt m files (index + 1) (Some raw) new
TokensSoFar-more most doubt m files index before raw holds placed old new so_far at holds_is placed_is places few =
    let inside = slice_get_within m.tokens index raw at in
    let test_is : is_doubtful doubt m files index ≡ holds =
    ap (λ o. option_map_or (λ t. looks_wrong doubt m files (token_before m index) t) o false) at
    ∙ (ap (λ b. looks_wrong doubt m files b raw) (sym so_far.before_is) ∙ sym holds_is) in
    let same : marked (is_doubtful doubt m files) index ++ cond holds (placed ∷ []) []
    ≡ marked (is_doubtful doubt m files) (index + 1) =
    ap (λ h. marked (is_doubtful doubt m files) index ++ cond h (placed ∷ []) []) (sym test_is)
    ∙ (ap (λ p. marked (is_doubtful doubt m files) index ++ cond (is_doubtful doubt m files index) (p ∷ []) []) placed_is
    ∙ sym (ap (marked (is_doubtful doubt m files)) (add-one index))) in
    record {
      within = omega (arith, inside);
      before_is = sym (ap (token_before m) (add-one index) ∙ at);
      places_are = subst (λ ks. ArePlaces most ks new) same places;
      few = omega arith;
    }

pub TokensSoFar-all : (most : ℕ) (doubt : Doubt) (m : MapValue) (files : Files) (index : ℕ) (before : Option RawToken)
    (places : Places) → TokensSoFar most doubt m files index before places → None ≡ token_at m index
    → ArePlaces most (marked (is_doubtful doubt m files) (length m.tokens)) places
TokensSoFar-all most doubt m files index before places so_far past =
    let end = past_tokens m index past in
    let same : index ≡ length m.tokens = let within = so_far.within in omega arith in
    subst (λ n. ArePlaces most (marked (is_doubtful doubt m files) n) places) same so_far.places_are
