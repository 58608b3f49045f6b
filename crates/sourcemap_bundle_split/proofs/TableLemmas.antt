-- Numbers of ids in a table. An entry `n` at `id` is the number of `id` only if `order` has `id` at index `n`.
use Rattle.std.proofs.Common.{◌≡◌, ◌≢◌, ◌∙◌, refl, sym, ap, subst, ℕ, zero, suc, ◌+◌, ◌<◌, ◌≤◌, ◌==◌, List, [], ◌∷◌}
use Rattle.std.proofs.Common.{◌++◌, length, get_or, set, All, Bool, true, false, cond, nat_lt, nat_eq, Option, Some}
use Rattle.std.proofs.Common.{None, is_none, option_map, unwrap_or, slice_get, arith, ◌⊎◌, inl, inr}
use Rattle.std.specs.List.{IsDistinct, list_any}
use Rattle.std.proofs.lemmas.Bool.{eqb-true, eq-eqb}
use Rattle.std.proofs.lemmas.Bool.Decides.{nat_tests, not_from_Decides}
use Rattle.std.proofs.lemmas.List.{get_or_default, get_or-set_same, get_or-set_other}
use Rattle.std.proofs.lemmas.Map.Keys.{any_passes_from_place}
use Rattle.std.proofs.lemmas.Map.Steps.{length-le_from_distinct_below}
use Rattle.std.proofs.lemmas.Option.{slice_get-get_or}
use Rattle.std.specs.Bool.{Decides}
use Rattle.sourcemap_tokens.specs.Tokens.{no_id}
use Rattle.sourcemap_bundle_split.specs.Ids.{AreBelow}
use Rattle.sourcemap_bundle_split.specs.ModuleMap.{number_of, with_id}
use Rattle.sourcemap_bundle_split.specs.Numbers.{Stand}
use Rattle.sourcemap_bundle_split.proofs.NumberLemmas.{number_of-get, number_of-append, any-number, below-with}
use Rattle.sourcemap_bundle_split.proofs.NumberLemmas.{distinct-with}

-- an id in the list has a number
number_of-there : (ids : List ℕ) (id n : ℕ) → slice_get ids n ≡ Some id → (m : ℕ) × (number_of ids id ≡ Some m)
number_of-there [] id n at = cc
number_of-there (k ∷ ids) id zero at =
    let first : k ≡ id = cc in
    let same : (k == id) ≡ true = subst (λ x. (x == id) ≡ true) (sym first) (eq-eqb id id refl) in
    (0, (rw same refl))
number_of-there (k ∷ ids) id (suc n) at = by_cases (k == id) refl (number_of-there ids id n at)
  where
    by_cases : (b : Bool) → (k == id) ≡ b → (m : ℕ) × (number_of ids id ≡ Some m)
        → (m : ℕ) × (number_of (k ∷ ids) id ≡ Some m)
    by_cases true same rest = (0, (rw same refl))
    by_cases false same rest = (rest.0 + 1, (rw (same, rest.1) refl))

number_at : (numbers order : List ℕ) (id n : ℕ) → Stand numbers order → slice_get order n ≡ Some id
    → number_of order id ≡ Some n
number_at numbers order id n stand at =
    let there = number_of-there order id n at in
    let back : slice_get order there.0 ≡ Some id = number_of-get order id there.0 there.1 in
    let same : there.0 ≡ n = sym (stand there.0 id back) ∙ stand n id at in
    subst (λ m. number_of order id ≡ Some m) same there.1

pub number_none : (numbers order : List ℕ) (id : ℕ) → Stand numbers order
    → slice_get order (get_or numbers id 0) ≢ Some id
    → number_of order id ≡ None
number_none numbers order id stand apart = by_cases (number_of order id) refl
  where
    by_cases : (o : Option ℕ) → number_of order id ≡ o → number_of order id ≡ None
    by_cases None is = is
    by_cases (Some m) is =
        let back : slice_get order m ≡ Some id = number_of-get order id m is in
        let same : get_or numbers id 0 ≡ m = stand m id back in
        absurd (apart (subst (λ n. slice_get order n ≡ Some id) (sym same) back))

-- a test decides whether `ids`, which equals `order`, has `id` at index `n`. If it has, `n` is the number of `id`
pub number_read : (numbers order ids : List ℕ) (id n : ℕ) {known : Bool} → Stand numbers order → ids ≡ order
    → Decides known (slice_get ids n ≡ Some id) → known ≡ true → number_of order id ≡ Some n
number_read numbers order ids id n stand same decides here =
    number_at numbers order id n stand (ap (λ list. slice_get list n) (sym same) ∙ decides.0 here)

-- let `Stand numbers order` hold, let `numbers` have `n` at index `id`, and let `ids` equal `order`. If `ids` does not
-- have `id` at index `n`, then `id` has no number in `order`
pub number_none_read : (numbers order ids : List ℕ) (id n default : ℕ) {known : Bool} → Stand numbers order
    → id < length numbers → n ≡ get_or numbers id default → ids ≡ order
    → Decides known (slice_get ids n ≡ Some id) → known ≡ false → number_of order id ≡ None
number_none_read numbers order ids id n default {known} stand inside read same decides away =
    number_none numbers order id stand (λ at. not_from_Decides known decides away
    (ap (λ list. slice_get list n) same
    ∙ ap (slice_get order) (read ∙ get_or_default numbers id default 0 inside) ∙ at))

-- if each id in `order` is below `count`, an id that is not below `count` has no number in `order`
pub number_past : (count : ℕ) (order : List ℕ) (id : ℕ) → AreBelow count order → count ≤ id → number_of order id ≡ None
number_past count order id below past = by_cases (number_of order id) refl
  where
    by_cases : (o : Option ℕ) → number_of order id ≡ o → number_of order id ≡ None
    by_cases None is = is
    by_cases (Some n) is = let inside : id < count = below id (any-number order id n is) in absurd (omega arith)

pub with_id-known : (count : ℕ) (ids : List ℕ) (id n : ℕ) → number_of ids id ≡ Some n → with_id count ids id ≡ ids
with_id-known count ids id n known = by_cases (nat_lt id count) refl
  where
    by_cases : (b : Bool) → nat_lt id count ≡ b → with_id count ids id ≡ ids
    by_cases true b = rw (b, known) refl
    by_cases false b = rw b refl

pub with_id-new : (count : ℕ) (ids : List ℕ) (id : ℕ) → id < count → number_of ids id ≡ None
    → with_id count ids id ≡ ids ++ id ∷ []
with_id-new count ids id inside none = let yes : nat_lt id count ≡ true = grind (arith, nat_tests, inside) in
    rw (yes, none) refl

pub number_of-new : (ids : List ℕ) (id : ℕ) → number_of ids id ≡ None
    → number_of (ids ++ id ∷ []) id ≡ Some (length ids)
number_of-new ids id none = rw (number_of-append ids id id, none, eq-eqb id id refl) refl

push-get : (xs : List ℕ) (x k n : ℕ) → slice_get (xs ++ x ∷ []) n ≡ Some k
    → (slice_get xs n ≡ Some k) ⊎ ((n ≡ length xs) × (k ≡ x))
push-get [] x k zero at = inr (refl, (let same : x ≡ k = cc in sym same))
push-get [] x k (suc n) at = cc
push-get (y ∷ xs) x k zero at = inl at
push-get (y ∷ xs) x k (suc n) at = elim (push-get xs x k n at) [
  | inl before ↦ inl before
  | inr last ↦ inr (ap suc last.0, last.1)
]

-- `Stand` still holds once a new id has got the next number
pub stand_push : (numbers order : List ℕ) (id : ℕ) → Stand numbers order → id < length numbers
    → number_of order id ≡ None
    → Stand (set numbers id (length order)) (order ++ id ∷ [])
stand_push numbers order id stand inside none n k at =
    elim (push-get order id k n at) [
      | inl before ↦
          let there = number_of-there order k n before in
          let other : k ≢ id = λ same. (let no : None ≡ Some there.0 =
          sym none ∙ subst (λ x. number_of order x ≡ Some there.0) same there.1 in cc) in
          get_or-set_other numbers id k (length order) 0 other ∙ stand n k before
      | inr last ↦
          subst (λ x. get_or (set numbers id (length order)) x 0 ≡ n) (sym last.1)
          (get_or-set_same numbers id (length order) 0 inside ∙ sym last.0)
    ]

pub below_push : (count : ℕ) (order : List ℕ) (id : ℕ) → AreBelow count order → id < count → number_of order id ≡ None
    → AreBelow count (order ++ id ∷ [])
below_push count order id below inside none =
    subst (AreBelow count) (with_id-new count order id inside none) (below-with count order id below)

pub distinct_push : (count : ℕ) (order : List ℕ) (id : ℕ) → IsDistinct nat_eq order → id < count
    → number_of order id ≡ None
    → IsDistinct nat_eq (order ++ id ∷ [])
distinct_push count order id distinct inside none =
    subst (IsDistinct nat_eq) (with_id-new count order id inside none) (distinct-with count order id distinct)

pub few_ids : (count : ℕ) (order : List ℕ) → AreBelow count order → IsDistinct nat_eq order → length order ≤ count
few_ids count order below distinct = length-le_from_distinct_below order count distinct below

pub all_below : (count : ℕ) (order : List ℕ) → AreBelow count order → All (λ id. id < count) order
all_below count order below k d inside =
    below (get_or order k d)
    (any_passes_from_place (nat_eq (get_or order k d)) order k (get_or order k d) (slice_get-get_or order k d inside)
    (grind (arith, nat_tests)))

pub stand_none : (numbers : List ℕ) → Stand numbers []
stand_none numbers n id at = cc
