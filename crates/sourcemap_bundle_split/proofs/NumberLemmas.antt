-- Ids that get numbers in the order of first use.
use Rattle.std.proofs.Common.{◌≡◌, ◌∙◌, refl, sym, ap, subst, ℕ, zero, suc, ◌+◌, ◌<◌, ◌≤◌, ◌==◌, ◌&&◌, List, [], ◌∷◌}
use Rattle.std.proofs.Common.{◌++◌, length, map, fold, Bool, true, false, cond, not, nat_lt, nat_eq, Option, Some, None}
use Rattle.std.proofs.Common.{is_none, option_map, unwrap_or, slice_get, get_or, arith, ◌⊎◌, inl, inr}
use Rattle.std.specs.List.{AllByRecursion, IsDistinct, list_any}
use Rattle.std.specs.Option.{option_or}
use Rattle.std.proofs.lemmas.Bool.{eqb-true, ltb-true, eq-eqb}
use Rattle.std.proofs.lemmas.Bool.Decides.{nat_tests}
use Rattle.std.proofs.lemmas.List.{length-map}
use Rattle.std.proofs.lemmas.Map.Steps.{length-le_from_distinct_below}
use Rattle.std.proofs.lemmas.Option.{slice_get-map, slice_get_past, slice_get_cases}
use Rattle.sourcemap_tokens.specs.Tokens.{no_id}
use Rattle.sourcemap_bundle_split.specs.ModuleMap.{number_of, with_id, used_ids, texts_at}
use Rattle.sourcemap_bundle_split.specs.Ids.{AreBelow}

pub number_of-get : (ids : List ℕ) (id n : ℕ) → number_of ids id ≡ Some n → slice_get ids n ≡ Some id
number_of-get [] id n found = cc
number_of-get (k ∷ ids) id n found = by_cases (k == id) (number_of ids id) refl refl (number_of-get ids id)
  where
    by_cases : (same : Bool) (later : Option ℕ) → (k == id) ≡ same → number_of ids id ≡ later
        → ((m : ℕ) → number_of ids id ≡ Some m → slice_get ids m ≡ Some id) → slice_get (k ∷ ids) n ≡ Some id
    by_cases true later same is rest =
        let here : Some 0 ≡ Some n = (rw same at found) in
        let first : 0 ≡ n = cc in
        let equal : k ≡ id = eqb-true k id same in
        subst (λ m. slice_get (k ∷ ids) m ≡ Some id) first (ap Some equal)
    by_cases false None same is rest = let no : None ≡ Some n = (rw (same, is) at found) in cc
    by_cases false (Some m) same is rest =
        let here : Some (m + 1) ≡ Some n = (rw (same, is) at found) in
        let next : suc m ≡ n = (let e : m + 1 ≡ n = cc in omega arith) in
        subst (λ m. slice_get (k ∷ ids) m ≡ Some id) next (rest m is)

pub number_of-append : (ids : List ℕ) (k id : ℕ)
    → number_of (ids ++ k ∷ []) id ≡ option_or (number_of ids id) (cond (k == id) (Some (length ids)) None)
number_of-append [] k id = refl
number_of-append (x ∷ ids) k id =
    by_cases (x == id) (number_of ids id) (k == id) refl refl refl (number_of-append ids k id)
  where
    by_cases : (here : Bool) (later : Option ℕ) (last : Bool) → (x == id) ≡ here → number_of ids id ≡ later
        → (k == id) ≡ last
        → number_of (ids ++ k ∷ []) id ≡ option_or (number_of ids id) (cond (k == id) (Some (length ids)) None)
        → number_of (x ∷ (ids ++ k ∷ [])) id
        ≡ option_or (number_of (x ∷ ids) id) (cond (k == id) (Some (suc (length ids))) None)
    by_cases true later last here is same rest = rw here refl
    by_cases false (Some m) last here is same rest = rw (here, rest, is) refl
    by_cases false None true here is same rest =
        let one : length ids + 1 ≡ suc (length ids) = omega arith in
        rw (here, rest, is, same, one) refl
    by_cases false None false here is same rest = rw (here, rest, is, same) refl

-- `with_id` does not change the number of an id that has a number
pub number_of-stays : (count : ℕ) (ids : List ℕ) (k id n : ℕ) → number_of ids id ≡ Some n
    → number_of (with_id count ids k) id ≡ Some n
number_of-stays count ids k id n found = by_cases (nat_lt k count && is_none (number_of ids k)) refl
  where
    by_cases : (b : Bool) → (nat_lt k count && is_none (number_of ids k)) ≡ b
        → number_of (with_id count ids k) id ≡ Some n
    by_cases true b = rw (b, number_of-append ids k id, found) refl
    by_cases false b = rw b found

stays-fold : (count : ℕ) (more ids : List ℕ) (id n : ℕ) → number_of ids id ≡ Some n
    → number_of (fold (with_id count) ids more) id ≡ Some n
stays-fold count [] ids id n found = found
stays-fold count (k ∷ more) ids id n found =
    stays-fold count more (with_id count ids k) id n (number_of-stays count ids k id n found)

-- an id below `count` has a number once it is used
pub number_of-met : (count : ℕ) (ids : List ℕ) (id : ℕ) → id < count
    → (n : ℕ) × (number_of (with_id count ids id) id ≡ Some n)
number_of-met count ids id below = by_cases (number_of ids id) refl
  where
    here : nat_lt id count ≡ true
    here = grind (arith, nat_tests, below)

    by_cases : (o : Option ℕ) → number_of ids id ≡ o → (n : ℕ) × (number_of (with_id count ids id) id ≡ Some n)
    by_cases (Some n) found = (n, number_of-stays count ids id id n found)
    by_cases None found = (length ids, (rw (here, found, number_of-append ids id id, found, eq-eqb id id refl) refl))

pub met-fold : (count : ℕ) (more ids : List ℕ) (k id : ℕ) → slice_get more k ≡ Some id → id < count
    → (n : ℕ) × (number_of (fold (with_id count) ids more) id ≡ Some n)
met-fold count [] ids k id at below = cc
met-fold count (x ∷ more) ids zero id at below =
    let first : x ≡ id = cc in
    let met = number_of-met count ids id below in (
      met.0,
      stays-fold count more (with_id count ids x) id met.0
          (subst (λ y. number_of (with_id count ids y) id ≡ Some met.0) (sym first) met.1),
    )
met-fold count (x ∷ more) ids (suc k) id at below = met-fold count more (with_id count ids x) k id at below

-- Each id in `used_ids count ids` is below `count` and occurs only once.

list_any-append : (q : ℕ) (ids : List ℕ) (k : ℕ) → list_any (nat_eq q) (ids ++ k ∷ []) ≡ true
    → (list_any (nat_eq q) ids ≡ true) ⊎ (q ≡ k)
list_any-append q [] k any = inr (grind (arith, nat_tests, any))
list_any-append q (x ∷ ids) k any = by_cases (nat_eq q x) refl (list_any-append q ids k)
  where
    by_cases : (b : Bool) → nat_eq q x ≡ b
        → (list_any (nat_eq q) (ids ++ k ∷ []) ≡ true → (list_any (nat_eq q) ids ≡ true) ⊎ (q ≡ k))
        → (list_any (nat_eq q) (x ∷ ids) ≡ true) ⊎ (q ≡ k)
    by_cases true b rest = inl (rw b refl)
    by_cases false b rest =
        elim (rest (rw b at any)) [ inl later ↦ inl (rw b later) | inr last ↦ inr last ]

pub below-with : (count : ℕ) (ids : List ℕ) (k : ℕ) → AreBelow count ids → AreBelow count (with_id count ids k)
below-with count ids k below q = by_cases (nat_lt k count) (is_none (number_of ids k)) refl refl
  where
    by_cases : (b c : Bool) → nat_lt k count ≡ b → is_none (number_of ids k) ≡ c
        → list_any (nat_eq q) (with_id count ids k) ≡ true → q < count
    by_cases true true b c any =
        let k_below : k < count = ltb-true k count b in
        elim (list_any-append q ids k (rw (b, c) at any)) [ inl before ↦ below q before | inr last ↦ omega arith ]
    by_cases true false b c any = below q (rw (b, c) at any)
    by_cases false c' b c any = below q (rw b at any)

not_there : (ids : List ℕ) (k : ℕ) → number_of ids k ≡ None → AllByRecursion (λ y. nat_eq y k ≡ false) ids
not_there [] k none = tt
not_there (x ∷ ids) k none = by_cases (x == k) (number_of ids k) refl refl (not_there ids k)
  where
    by_cases : (b : Bool) (o : Option ℕ) → (x == k) ≡ b → number_of ids k ≡ o
        → (number_of ids k ≡ None → AllByRecursion (λ y. nat_eq y k ≡ false) ids)
        → AllByRecursion (λ y. nat_eq y k ≡ false) (x ∷ ids)
    by_cases true o b is rest = let no : ◌≡◌ {A = Option ℕ} (Some 0) None = (rw b at none) in cc
    by_cases false None b is rest = (b, rest is)
    by_cases false (Some n) b is rest = let no : Some (n + 1) ≡ None = (rw (b, is) at none) in cc

all-push : (P : ℕ → Type 0) (ids : List ℕ) (k : ℕ) → AllByRecursion P ids → P k → AllByRecursion P (ids ++ k ∷ [])
all-push P [] k all p = (p, tt)
all-push P (x ∷ ids) k all p = (all.0, all-push P ids k all.1 p)

distinct-push : (ids : List ℕ) (k : ℕ) → IsDistinct nat_eq ids → AllByRecursion (λ y. nat_eq y k ≡ false) ids
    → IsDistinct nat_eq (ids ++ k ∷ [])
unfolding IsDistinct
distinct-push [] k distinct others = (tt, tt)
distinct-push (x ∷ ids) k distinct others =
    (all-push (λ y. nat_eq x y ≡ false) ids k distinct.0 others.0, distinct-push ids k distinct.1 others.1)

pub distinct-with : (count : ℕ) (ids : List ℕ) (k : ℕ) → IsDistinct nat_eq ids → IsDistinct nat_eq (with_id count ids k)
distinct-with count ids k distinct = by_cases (nat_lt k count) (number_of ids k) refl refl
  where
    by_cases : (b : Bool) (o : Option ℕ) → nat_lt k count ≡ b → number_of ids k ≡ o
        → IsDistinct nat_eq (with_id count ids k)
    by_cases true None b is = rw (b, is) (distinct-push ids k distinct (not_there ids k is))
    by_cases true (Some n) b is = rw (b, is) distinct
    by_cases false o b is = rw b distinct

pub below-fold : (count : ℕ) (more ids : List ℕ) → AreBelow count ids → AreBelow count (fold (with_id count) ids more)
below-fold count [] ids below = below
below-fold count (k ∷ more) ids below = below-fold count more (with_id count ids k) (below-with count ids k below)

distinct-fold : (count : ℕ) (more ids : List ℕ) → IsDistinct nat_eq ids
    → IsDistinct nat_eq (fold (with_id count) ids more)
distinct-fold count [] ids distinct = distinct
distinct-fold count (k ∷ more) ids distinct =
    distinct-fold count more (with_id count ids k) (distinct-with count ids k distinct)

pub nothing_distinct : IsDistinct nat_eq []
unfolding IsDistinct
nothing_distinct = tt

pub nothing_below : (count : ℕ) → AreBelow count []
nothing_below count q any = cc

pub few_used : (count : ℕ) (ids : List ℕ) → length (used_ids count ids) ≤ count
few_used count ids =
    length-le_from_distinct_below (used_ids count ids) count (distinct-fold count ids [] nothing_distinct)
    (below-fold count ids [] (nothing_below count))

pub any-number : (ids : List ℕ) (id n : ℕ) → number_of ids id ≡ Some n → list_any (nat_eq id) ids ≡ true
any-number [] id n found = cc
any-number (x ∷ ids) id n found = by_cases (x == id) (number_of ids id) refl refl (any-number ids id)
  where
    by_cases : (b : Bool) (o : Option ℕ) → (x == id) ≡ b → number_of ids id ≡ o
        → ((m : ℕ) → number_of ids id ≡ Some m → list_any (nat_eq id) ids ≡ true)
        → list_any (nat_eq id) (x ∷ ids) ≡ true
    by_cases true o b is rest = let same : nat_eq id x ≡ true = grind (arith, nat_tests, b) in rw same refl
    by_cases false None b is rest = let no : None ≡ Some n = (rw (b, is) at found) in cc
    by_cases false (Some m) b is rest =
        let same : nat_eq id x ≡ false = grind (arith, nat_tests, b) in rw same (rest m is)

-- let `texts` have at most 4294967295 texts, let `id` be in `ids`, and let the new list have the texts of the used ids
-- in their order. If `texts` has a text at `id`, the new list has this text at the number of `id`. Otherwise `id` has
-- no number, and the new list has no text at `no_id`
pub text_by_number : (texts : List (List ℕ)) (ids : List ℕ) (k id : ℕ) → length texts ≤ 4294967295
    → slice_get ids k ≡ Some id
    → slice_get (texts_at texts (used_ids (length texts) ids)) (unwrap_or
    (number_of (used_ids (length texts) ids) id) no_id) ≡ slice_get texts id
text_by_number texts ids k id few at = by_index (slice_get_cases texts id).1
  where
    by_number : (o : Option ℕ) → number_of (used_ids (length texts) ids) id ≡ o → length texts ≤ id
        → slice_get texts id ≡ None
        → slice_get (texts_at texts (used_ids (length texts) ids)) (unwrap_or
        (number_of (used_ids (length texts) ids) id) no_id) ≡ slice_get texts id
    by_number (Some n) is past none =
        let below : id < length texts = below-fold (length texts) ids [] (nothing_below (length texts)) id (any-number
        (used_ids (length texts) ids) id n is) in
        absurd (omega arith)
    by_number None is past none =
        let few_texts : length (texts_at texts (used_ids (length texts) ids)) ≤ no_id =
        omega (
          arith,
          few_used (length texts) ids,
          length-map {A = ℕ} {B = List ℕ} (used_ids (length texts) ids) (λ id. unwrap_or (slice_get texts id) []),
        ) in
        rw (is, none) (slice_get_past (texts_at texts (used_ids (length texts) ids)) no_id few_texts)

    by_index : ((x : List ℕ) × (id < length texts) × (slice_get texts id ≡ Some x) × (get_or texts id x ≡ x))
        ⊎ ((length texts ≤ id) × (slice_get texts id ≡ None))
        → slice_get (texts_at texts (used_ids (length texts) ids)) (unwrap_or
        (number_of (used_ids (length texts) ids) id) no_id) ≡ slice_get texts id
    by_index (inl found) =
        let met = met-fold (length texts) ids [] k id at found.1 in
        let there : slice_get (used_ids (length texts) ids) met.0 ≡ Some id =
        number_of-get (used_ids (length texts) ids) id met.0 met.1 in
        rw (met.1, found.2) (slice_get-map (λ id. unwrap_or (slice_get texts id) []) (used_ids (length texts) ids) met.0
        ∙ ap (option_map (λ id. unwrap_or (slice_get texts id) [])) there ∙ ap (λ o. Some (unwrap_or o [])) found.2)
    by_index (inr past) = by_number (number_of (used_ids (length texts) ids) id) refl past.0 past.1
