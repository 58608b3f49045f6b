-- The order of tokens, the closest token, and the reduced list.
use Rattle.std.proofs.Common.{◌≡◌, refl, sym, ap, subst, ◌∙◌, ℕ, ◌+◌, ◌-◌, ◌<◌, ◌≤◌, List, [], ◌∷◌, length, get_or, map}
use Rattle.std.proofs.Common.{Bool, true, false, cond, arith, inl, inr, eqb-true, Option, Some, None, IfSome, find}
use Rattle.std.proofs.Common.{option_map, slice_get, nat_lt, if◌then◌else◌, ◌==◌}
use mathlib.Core.Bool.{beq}
use Rattle.std.specs.List.{AllByRecursion}
use Rattle.std.specs.Option.{option_or}
use Rattle.std.specs.Cmp.{IsTotalOrder}
use Rattle.std.specs.Ordering.{is_lt, is_le, is_eq}
use Rattle.std.specs.List.Sorted.{IsStableByKey}
use Rattle.std.proofs.lemmas.Bool.{and_parts, cases_eq, cases_Bool}
use Rattle.std.proofs.lemmas.List.{get_or_default}
use Rattle.std.proofs.lemmas.Bool.Decides.{nat_tests}
use Rattle.std.proofs.lemmas.Cmp.{nat_cmp_total, on_total, then_total}
use Rattle.sourcemap_tokens.specs.declared.tokens.RawToken.{RawToken}
use Rattle.sourcemap_tokens.specs.Tokens.{position_cmp, closest_token, destination, AreInOrder, in_order, AllWithin}
use Rattle.sourcemap_tokens.specs.Tokens.{IsWithin, are_same, changes_after, without_repeats, with_valid_name, reduced}
use Rattle.sourcemap_tokens.specs.Search.{find_last, closest_item}
use Rattle.std.proofs.lemmas.List.Sorted.{ranks_by}
use Rattle.sourcemap_tokens.proofs.AllLemmas.{All-map}
use Rattle.std.proofs.lemmas.Option.{get_or_from_slice_get, slice_get_within, slice_get-get_or}
use Rattle.sourcemap_tokens.proofs.SearchLemmas.{IsApart, IsBracket, closest-at_most, closest-miss, closest_item-change}
use Rattle.sourcemap_tokens.proofs.SearchLemmas.{index-closest}
use Rattle.sourcemap_tokens.proofs.SortLemmas.{Rises, Rises-from_sorted, sorted_from_Rises, sorted_by-sorted}
use Rattle.sourcemap_tokens.proofs.SortLemmas.{length-sorted_by, sorted-sorted_by, All-sorted_by, stably_sorted}

pub position_cmp_total : IsTotalOrder position_cmp
position_cmp_total =
    then_total (on_total (λ (p : ℕ × ℕ). p.0) nat_cmp_total) (on_total (λ (p : ℕ × ℕ). p.1) nat_cmp_total)

pub none_before_first : (p : ℕ × ℕ) → is_lt (position_cmp p (0, 0)) ≡ false
none_before_first (line, col) = grind (arith, nat_tests)

-- a loop over tokens that compares each with the one before it: p is the position of the token before index i
module _ (tokens : List RawToken) (i : ℕ) (p : ℕ × ℕ) (last : (d : RawToken) → 0 < i
    → destination (get_or tokens (i - 1) d) ≡ p) (d : RawToken) (within : i < length tokens) where
  pub order_fails : (i ≡ 0 → p ≡ (0, 0)) → is_lt (position_cmp (destination (get_or tokens i d)) p) ≡ true
      → AreInOrder tokens → ⊥
  order_fails start falls up =
      elim (cases_eq i 0) [
        | inl front ↦
            let here : is_lt (position_cmp (destination (get_or tokens i d)) (0, 0)) ≡ true =
            subst (λ q. is_lt (position_cmp (destination (get_or tokens i d)) q) ≡ true) (start front) falls in
            let never = none_before_first (destination (get_or tokens i d)) in
            cc
        | inr later ↦
            let next : i - 1 + 1 ≡ i = omega arith in
            let step = up (i - 1) d (omega arith) (omega arith) in
            let rises : is_lt (position_cmp (destination (get_or tokens i d)) (destination (get_or tokens (i - 1) d)))
            ≡ false = subst (λ k. is_lt (position_cmp (destination (get_or tokens k d))
            (destination (get_or tokens (i - 1) d))) ≡ false) next step in
            let rises' : is_lt (position_cmp (destination (get_or tokens i d)) p) ≡ false = subst
            (λ q. is_lt (position_cmp (destination (get_or tokens i d)) q) ≡ false) (last d (omega arith)) rises in
            cc
      ]

  pub order_goes_on : is_lt (position_cmp (destination (get_or tokens i d)) p) ≡ false
      → ((k : ℕ) (e : RawToken) → k + 1 < i
      → is_lt (position_cmp (destination (get_or tokens (k + 1) e)) (destination (get_or tokens k e))) ≡ false)
      → (k : ℕ) (e : RawToken) → k + 1 < i + 1
      → is_lt (position_cmp (destination (get_or tokens (k + 1) e)) (destination (get_or tokens k e))) ≡ false
  order_goes_on rises so_far k e l =
      elim (cases_eq (k + 1) i) [
        | inl here ↦
            let before : i - 1 ≡ k = omega arith in
            let same_position : p ≡ destination (get_or tokens k e) =
            sym (last e (omega arith)) ∙ ap (λ j. destination (get_or tokens j e)) before in
            let at : is_lt (position_cmp (destination (get_or tokens i e)) p) ≡ false =
            subst (λ t. is_lt (position_cmp (destination t) p) ≡ false) (get_or_default tokens i d e within) rises in
            let at' : is_lt (position_cmp (destination (get_or tokens (k + 1) e)) p) ≡ false =
            subst (λ j. is_lt (position_cmp (destination (get_or tokens j e)) p) ≡ false) (sym here) at in
            subst (λ q. is_lt (position_cmp (destination (get_or tokens (k + 1) e)) q) ≡ false) same_position at'
        | inr other ↦ so_far k e (omega arith)
      ]

-- tokens in order are their own sorted list
pub in_order-ordered : (tokens : List RawToken) → AreInOrder tokens → in_order tokens ≡ tokens
in_order-ordered tokens up = sorted_by-sorted destination position_cmp_total tokens up

pub AreInOrder-in_order : (tokens : List RawToken) → AreInOrder (in_order tokens)
AreInOrder-in_order tokens = sorted-sorted_by destination position_cmp_total tokens

pub length-in_order : (tokens : List RawToken) → length (in_order tokens) ≡ length tokens
length-in_order tokens = length-sorted_by destination position_cmp_total tokens

pub AllWithin-in_order : (sources names : ℕ) (tokens : List RawToken) → AllWithin sources names tokens
    → AllWithin sources names (in_order tokens)
AllWithin-in_order sources names tokens all =
    All-sorted_by destination position_cmp_total (IsWithin sources names) tokens all

-- the only stable sort of `tokens` by generated position is `in_order tokens`
pub stably_in_order : (tokens sorted : List RawToken) → AreInOrder sorted
    → IsStableByKey destination position_cmp tokens sorted → sorted ≡ in_order tokens
stably_in_order tokens sorted up stable = stably_sorted destination position_cmp_total tokens sorted up stable

one_flag : (a b : Bool) → beq a b ≡ true → a ≡ b
one_flag true true e = refl
one_flag true false e = cc
one_flag false true e = cc
one_flag false false e = refl

pub same_from_are_same : (s t : RawToken) → are_same s t ≡ true → s ≡ t
same_from_are_same s t e =
    let on_line = and_parts (s.dst_line == t.dst_line) _ e in
    let on_col = and_parts (s.dst_col == t.dst_col) _ on_line.1 in
    let of_line = and_parts (s.src_line == t.src_line) _ on_col.1 in
    let of_col = and_parts (s.src_col == t.src_col) _ of_line.1 in
    let source = and_parts (s.src_id == t.src_id) _ of_col.1 in
    let name = and_parts (s.name_id == t.name_id) _ source.1 in
    λ i. record {
      dst_line = eqb-true s.dst_line t.dst_line on_line.0 i;
      dst_col = eqb-true s.dst_col t.dst_col on_col.0 i;
      src_line = eqb-true s.src_line t.src_line of_line.0 i;
      src_col = eqb-true s.src_col t.src_col of_col.0 i;
      src_id = eqb-true s.src_id t.src_id source.0 i;
      name_id = eqb-true s.name_id t.name_id name.0 i;
      is_range = one_flag s.is_range t.is_range name.1 i;
    }

-- let `sees` be a fold by `step`. If a second step in a row with the same token changes nothing, `sees` ignores repeats
module _ {R : Type 0} (sees : List RawToken → R) (step : RawToken → R → R) (each : (t : RawToken) (ts : List RawToken)
    → sees (t ∷ ts) ≡ step t (sees ts)) (once : (t : RawToken) (r : R) → step t (step t r) ≡ step t r) where
  sees-changes_after : (t : RawToken) (ts : List RawToken) → sees (t ∷ changes_after t ts) ≡ sees (t ∷ ts)
  sees-changes_after t [] = refl
  sees-changes_after t (u ∷ us) =
      elim (cases_Bool (are_same u t)) [
        | inl same ↦
            let alike : u ≡ t = same_from_are_same u t same in
            let rest : sees (u ∷ changes_after u us) ≡ sees (u ∷ u ∷ us) =
            sees-changes_after u us ∙ each u us ∙ sym (once u (sees us)) ∙ sym (ap (step u) (each u us))
            ∙ sym (each u (u ∷ us)) in
            rw same (subst (λ v. sees (v ∷ changes_after u us) ≡ sees (v ∷ u ∷ us)) alike rest)
        | inr other ↦
            rw other (each t (u ∷ changes_after u us) ∙ ap (step t) (sees-changes_after u us) ∙ sym (each t (u ∷ us)))
      ]

  pub sees-without_repeats : (ts : List RawToken) → sees (without_repeats ts) ≡ sees ts
  sees-without_repeats [] = refl
  sees-without_repeats (t ∷ ts) = sees-changes_after t ts

first_once : (t : RawToken → Bool) (x : RawToken) (r : Option RawToken)
    → cond (t x) (Some x) (cond (t x) (Some x) r) ≡ cond (t x) (Some x) r
first_once t x r = elim (t x) as (λ b. cond b (Some x) (cond b (Some x) r) ≡ cond b (Some x) r) [
  | true ↦ refl
  | false ↦ refl
]

last_once : (r o : Option RawToken) → option_or (option_or r o) o ≡ option_or r o
last_once (Some y) o = refl
last_once None (Some y) = refl
last_once None None = refl

-- repeats do not change the closest token
pub closest_item-without_repeats : (tokens : List RawToken) (p : ℕ × ℕ)
    → closest_item destination position_cmp (without_repeats tokens) p ≡ closest_item destination position_cmp tokens p
closest_item-without_repeats tokens p =
    let at : RawToken → Bool = λ t. is_eq (position_cmp (destination t) p) in
    let before : RawToken → Bool = λ t. is_lt (position_cmp (destination t) p) in
    let first : find (λ t. is_eq (position_cmp (destination t) p)) (without_repeats tokens)
    ≡ find (λ t. is_eq (position_cmp (destination t) p)) tokens =
    sees-without_repeats (find at) (λ t r. cond (at t) (Some t) r) (λ t ts. refl) (first_once at) tokens in
    let last : find_last (λ t. is_lt (position_cmp (destination t) p)) (without_repeats tokens)
    ≡ find_last (λ t. is_lt (position_cmp (destination t) p)) tokens =
    sees-without_repeats (find_last before) (λ t r. option_or r (cond (before t) (Some t) None)) (λ t ts. refl)
    (λ t r. last_once r (cond (before t) (Some t) None)) tokens in
    rw (first, last)

-- the reduced list has the same closest token, except that a name id that is not below `names` becomes `no_id`
pub closest_item-reduced : (names : ℕ) (tokens : List RawToken) (p : ℕ × ℕ) → closest_item destination position_cmp
    (reduced names tokens) p ≡ option_map (with_valid_name names) (closest_item destination position_cmp tokens p)
closest_item-reduced names tokens p =
    closest_item-change destination destination position_cmp (with_valid_name names) (λ t. refl)
    (without_repeats tokens) p
    ∙ ap (option_map (with_valid_name names)) (closest_item-without_repeats tokens p)

All-changes_after : (P : RawToken → Type 0) (t : RawToken) (ts : List RawToken) → AllByRecursion P ts
    → AllByRecursion P (changes_after t ts)
All-changes_after P t [] all = tt
All-changes_after P t (u ∷ us) all =
    elim (are_same u t) as (λ b. AllByRecursion P (cond b (changes_after u us) (u ∷ changes_after u us))) [
      | true ↦ All-changes_after P u us all.1
      | false ↦ (all.0, All-changes_after P u us all.1)
    ]

pub All-without_repeats : (P : RawToken → Type 0) (ts : List RawToken) → AllByRecursion P ts
    → AllByRecursion P (without_repeats ts)
All-without_repeats P [] all = tt
All-without_repeats P (t ∷ ts) all = (all.0, All-changes_after P t ts all.1)

Rises-changes_after : (lt : RawToken → RawToken → Bool) (t : RawToken) (ts : List RawToken) → Rises lt ts
    → Rises lt (changes_after t ts)
Rises-changes_after lt t [] r = tt
Rises-changes_after lt t (u ∷ us) r =
    elim (are_same u t) as (λ b. Rises lt (cond b (changes_after u us) (u ∷ changes_after u us))) [
      | true ↦ Rises-changes_after lt u us r.1
      | false ↦ (All-changes_after (λ y. lt y u ≡ false) u us r.0, Rises-changes_after lt u us r.1)
    ]

Rises-without_repeats : (lt : RawToken → RawToken → Bool) (ts : List RawToken) → Rises lt ts
    → Rises lt (without_repeats ts)
Rises-without_repeats lt [] r = tt
Rises-without_repeats lt (t ∷ ts) r =
    (All-changes_after (λ y. lt y t ≡ false) t ts r.0, Rises-changes_after lt t ts r.1)

Rises-map : {X Y : Type 0} (lt : Y → Y → Bool) (change : X → Y) (xs : List X)
    → Rises (λ a b. lt (change a) (change b)) xs → Rises lt (map change xs)
Rises-map lt change [] r = tt
Rises-map lt change (x ∷ xs) r = (All-map (λ y. lt y (change x) ≡ false) change xs r.0, Rises-map lt change xs r.1)

-- if tokens are in order, their reduced list is in order
pub AreInOrder-reduced : (names : ℕ) (tokens : List RawToken) → AreInOrder tokens → AreInOrder (reduced names tokens)
AreInOrder-reduced names tokens up =
    sorted_from_Rises (λ a b. is_lt (position_cmp (destination a) (destination b))) (reduced names tokens)
    (Rises-map (λ a b. is_lt (position_cmp (destination a) (destination b))) (with_valid_name names)
    (without_repeats tokens)
    (Rises-without_repeats (λ a b. is_lt (position_cmp (destination a) (destination b))) tokens
    (Rises-from_sorted (λ a b. is_lt (position_cmp (destination a) (destination b)))
    (ranks_by position_cmp_total destination) tokens up)))

sound_name_fits : (names id : ℕ) → names ≤ 4294967295 → names ≤ id
    → names ≤ (if nat_lt id names then id else 4294967295)
sound_name_fits names id few out = grind (arith, nat_tests)

-- ---- a later position

same_position : (p q : ℕ × ℕ) → is_eq (position_cmp q p) ≡ true → q ≡ p
same_position (a, b) (c, d) same =
    let line : c ≡ a = grind (arith, nat_tests) in
    let column : d ≡ b = grind (arith, nat_tests) in
    λ i. (line i, column i)

before_later : (a p q : ℕ × ℕ) → is_le (position_cmp a p) ≡ true → is_lt (position_cmp q p) ≡ false
    → is_eq (position_cmp q p) ≡ false → is_lt (position_cmp a q) ≡ true
before_later (a, b) (c, d) (e, f) h k l = grind (arith, nat_tests)

not_before : (p q : ℕ × ℕ) → is_lt (position_cmp p q) ≡ true → is_lt (position_cmp q p) ≡ false
not_before (a, b) (c, d) h = grind (arith, nat_tests)

not_at : (p q : ℕ × ℕ) → is_lt (position_cmp p q) ≡ true → is_eq (position_cmp q p) ≡ false
not_at (a, b) (c, d) h = grind (arith, nat_tests)

-- let `tokens` be in order, let `found` be the token closest to `p`, and let `q` be `p` or a later position. If no
-- token follows `found`, or if `q` is before the token that follows `found`, then `found` is also the token closest to
-- `q`
pub closest-stays : (tokens : List RawToken) (p q : ℕ × ℕ) (found : ℕ × RawToken) → AreInOrder tokens
    → closest_token tokens p ≡ Some found
    → is_lt (position_cmp q p) ≡ false
    → IfSome (slice_get tokens (found.0 + 1)) (λ next. is_lt (position_cmp q (destination next)) ≡ true)
    → closest_token tokens q ≡ Some found
closest-stays tokens p q (n, token) up is later before =
    elim (cases_Bool (is_eq (position_cmp q p))) [
      | inl same ↦ ap (closest_token tokens) (same_position p q same) ∙ is
      | inr other ↦
          let own : slice_get tokens n ≡ Some token = subst (λ o. IfSome o (λ (e : ℕ × RawToken). slice_get tokens e.0
          ≡ Some e.1)) is (index-closest destination position_cmp tokens p) in
          let least : is_le (position_cmp (destination token) p) ≡ true =
          subst (λ o. IfSome o (λ (e : ℕ × RawToken). is_le (position_cmp (destination e.1) p) ≡ true)) is
          (closest-at_most destination position_cmp tokens p) in
          let within = slice_get_within tokens n token own in
          let back : n + 1 - 1 ≡ n = omega arith in
          let read : token ≡ get_or tokens (n + 1 - 1) token =
          sym (ap (λ k. get_or tokens k token) back ∙ get_or_from_slice_get tokens n token token own) in
          let next : (d : RawToken) → n + 1 < length tokens
          → is_lt (position_cmp q (destination (get_or tokens (n + 1) d))) ≡ true =
          (λ d l. subst (λ o. IfSome o (λ next. is_lt (position_cmp q (destination next)) ≡ true))
          (slice_get-get_or tokens (n + 1) d l) before) in
          let bracket : IsBracket destination position_cmp tokens q (n + 1) (n + 1) = record {
            below = λ d _. subst (λ (t : RawToken). is_lt (position_cmp (destination t) q)
                ≡ true) (sym (ap (λ k. get_or tokens k d) back ∙ get_or_from_slice_get tokens n token d own))
                (before_later
                (destination token) p q least later other);
            above = λ d l. not_before q (destination (get_or tokens (n + 1) d)) (next d l);
          } in
          let apart : IsApart destination position_cmp tokens q (n + 1) =
          λ d l. not_at q (destination (get_or tokens (n + 1) d)) (next d l) in
          sym (closest-miss position_cmp_total destination tokens q (n + 1) up bracket token (omega arith)
          (omega (arith, within)) read apart) ∙ ap (λ k. Some (k, token)) back
    ]
