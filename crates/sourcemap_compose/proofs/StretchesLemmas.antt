-- The order of positions, and the stretches of a sorted list: no stretch starts before an earlier stretch ends.
use Rattle.std.proofs.Common.{◌≡◌, refl, sym, ap, subst, ◌∙◌, ℕ, zero, suc, ◌+◌, ◌≤◌, List, [], ◌∷◌, length, drop, Bool}
use Rattle.std.proofs.Common.{true, false, Some, None, Option, slice_get, IsSortedByKey, arith, inl, inr, add-one}
use Rattle.std.specs.List.{AllByRecursion}
use Rattle.std.specs.Ordering.{is_lt}
use Rattle.std.proofs.lemmas.Bool.{cases_Bool}
use Rattle.std.proofs.lemmas.Bool.Decides.{nat_tests}
use Rattle.std.proofs.lemmas.List.Sorted.{ranks_by}
use Rattle.std.proofs.lemmas.Option.{slice_get_within}
use Rattle.sourcemap_tokens.specs.declared.tokens.RawToken.{RawToken}
use Rattle.sourcemap_tokens.specs.Tokens.{position_cmp}
use Rattle.sourcemap_tokens.proofs.AllLemmas.{All-at}
use Rattle.sourcemap_tokens.proofs.SortLemmas.{Rises, Rises-from_sorted}
use Rattle.sourcemap_tokens.proofs.TokensLemmas.{position_cmp_total}
use Rattle.sourcemap_compose.specs.declared.stretches.Stretch.{Stretch}
use Rattle.sourcemap_compose.specs.Stretches.{earlier, end_before, is_before, line_end, stretches}

-- Positions.

-- laws of the order, on at most three positions
pub before-chain : (p q r : ℕ × ℕ) → is_before p q ≡ false → is_before q r ≡ false → is_before p r ≡ false
before-chain p q r first second = grind (arith, nat_tests)

pub before-after : (p q r : ℕ × ℕ) → is_before p q ≡ true → is_before r q ≡ false → is_before p r ≡ true
before-after p q r first second = grind (arith, nat_tests)

pub after-before : (p q r : ℕ × ℕ) → is_before q p ≡ false → is_before q r ≡ true → is_before p r ≡ true
after-before p q r first second = grind (arith, nat_tests)

pub after_earlier : (p q r : ℕ × ℕ) → is_before q r ≡ true → is_before p r ≡ false → is_before p q ≡ false
after_earlier p q r before after = grind (arith, nat_tests)

pub not_both_ways : (p q : ℕ × ℕ) → is_before p q ≡ true → is_before q p ≡ false
not_both_ways p q before = grind (arith, nat_tests)

pub not_before_itself : (p : ℕ × ℕ) → is_before p p ≡ false
not_before_itself p = grind (arith, nat_tests)

pub same_from_neither : (p q : ℕ × ℕ) → is_before p q ≡ false → is_before q p ≡ false → p ≡ q
same_from_neither p q first second =
    let line : p.0 ≡ q.0 = grind (arith, nat_tests) in
    let column : p.1 ≡ q.1 = grind (arith, nat_tests) in
    λ i. (line i, column i)

pub earlier-first : (p q r : ℕ × ℕ) → is_before r p ≡ false → is_before r (earlier p q) ≡ false
earlier-first p q r after =
    elim (cases_Bool (is_before p q)) [
      | inl first ↦ rw first after
      | inr second ↦ rw second (before-chain r p q after second)
    ]

pub earlier-second : (p q : ℕ × ℕ) → is_before q (earlier p q) ≡ false
earlier-second p q =
    elim (cases_Bool (is_before p q)) [
      | inl first ↦ rw first (not_both_ways p q first)
      | inr second ↦ rw second (not_before_itself q)
    ]

-- Indices.

module _ (position : RawToken → ℕ × ℕ) where
  pub length-stretches : (tokens : List RawToken) → length (stretches position tokens) ≡ length tokens
  length-stretches [] = refl
  length-stretches (t ∷ ts) = ap suc (length-stretches ts)

  pub stretches-at : (tokens : List RawToken) (i : ℕ) (t : RawToken) → slice_get tokens i ≡ Some t
      → slice_get (stretches position tokens) i
      ≡ Some (record { token = t; start = position t; end = end_before position t (slice_get tokens (suc i)) })
  stretches-at [] i t e = cc
  stretches-at (u ∷ us) zero t e = let same : u ≡ t = cc in
      ap (λ w. Some (record { token = w; start = position w; end = end_before position w (slice_get us 0) })) same
  stretches-at (u ∷ us) (suc i) t e = stretches-at us i t e

  pub stretch-is : (tokens : List RawToken) (i : ℕ) (t : RawToken) (next : Option RawToken) (start end : ℕ × ℕ)
      → slice_get tokens i ≡ Some t → slice_get tokens (i + 1) ≡ next → start ≡ position t
      → end ≡ end_before position t next
      → slice_get (stretches position tokens) i ≡ Some (record { token = t; start = start; end = end })
  stretch-is tokens i t next start end here follows starts ends =
      let follows' : slice_get tokens (suc i) ≡ next = rw add-one at follows in
      let from : position t ≡ start = sym starts in
      let to : end_before position t (slice_get tokens (suc i)) ≡ end =
      ap (end_before position t) follows' ∙ sym ends in
      stretches-at tokens i t here ∙ λ k. Some (record { token = t; start = from k; end = to k })

  -- Order.

  starts : (P : ℕ × ℕ → Type 0) (tokens : List RawToken) → AllByRecursion (λ t. P (position t)) tokens
      → AllByRecursion (λ (s : Stretch). P s.start) (stretches position tokens)
  starts P [] all = tt
  starts P (t ∷ ts) all = (all.0, starts P ts all.1)

  after_end : (t next : RawToken) (tokens : List RawToken)
      → AllByRecursion (λ u. is_before (position u) (position next) ≡ false) tokens
      → AllByRecursion (λ u. is_before (position u) (earlier (position next) (line_end (position t))) ≡ false) tokens
  after_end t next [] all = tt
  after_end t next (u ∷ us) all =
      (earlier-first (position next) (line_end (position t)) (position u) all.0, after_end t next us all.1)

  -- no stretch starts before an earlier one ends
  pub Rises-stretches : (tokens : List RawToken) → Rises (λ a b. is_lt (position_cmp (position a) (position b))) tokens
      → Rises (λ (u s : Stretch). is_before u.start s.end) (stretches position tokens)
  Rises-stretches [] r = tt
  Rises-stretches (t ∷ []) r = (tt, tt)
  Rises-stretches (t ∷ next ∷ rest) r = (
    starts (λ p. is_before p (earlier (position next) (line_end (position t))) ≡ false) (next ∷ rest) (
      earlier-first (position next) (line_end (position t)) (position next) (not_before_itself (position next)),
      after_end t next rest r.1.0,
    ),
    Rises-stretches (next ∷ rest) r.1,
  )

  pub stretches_follow : (tokens : List RawToken) → IsSortedByKey position position_cmp tokens
      → Rises (λ (u s : Stretch). is_before u.start s.end) (stretches position tokens)
  stretches_follow tokens up = Rises-stretches tokens (Rises-from_sorted
      (λ a b. is_lt (position_cmp (position a) (position b))) (ranks_by position_cmp_total position) tokens up)

  -- `s` starts at the position of its token, and ends at or before the end of the line of `s.start`
  pub record IsSound (s : Stretch) : Type 0 where
    pub start : s.start ≡ position s.token
    pub end : is_before (line_end s.start) s.end ≡ false

  end_sound : (t : RawToken) (next : Option RawToken)
      → is_before (line_end (position t)) (end_before position t next) ≡ false
  end_sound t None = not_before_itself (line_end (position t))
  end_sound t (Some next) = earlier-second (position next) (line_end (position t))

  pub stretches-sound : (tokens : List RawToken) → AllByRecursion IsSound (stretches position tokens)
  stretches-sound [] = tt
  stretches-sound (t ∷ ts) = (record { start = refl; end = end_sound t (slice_get ts 0) }, stretches-sound ts)

Rises-drop : {X : Type 0} (lt : X → X → Bool) (i : ℕ) (xs : List X) → Rises lt xs → Rises lt (drop i xs)
Rises-drop lt zero xs r = r
Rises-drop lt (suc i) [] r = tt
Rises-drop lt (suc i) (x ∷ xs) r = Rises-drop lt i xs r.1

drop-at : {X : Type 0} (xs : List X) (i : ℕ) (x : X) → slice_get xs i ≡ Some x → drop i xs ≡ x ∷ drop (suc i) xs
drop-at [] i x e = cc
drop-at (y ∷ ys) zero x e = let same : y ≡ x = cc in ap (λ w. w ∷ ys) same
drop-at (y ∷ ys) (suc i) x e = drop-at ys i x e

pub drop-past : {X : Type 0} (xs : List X) (i : ℕ) → slice_get xs i ≡ None → drop i xs ≡ []
drop-past [] zero e = refl
drop-past [] (suc i) e = refl
drop-past (y ∷ ys) zero e = cc
drop-past (y ∷ ys) (suc i) e = drop-past ys i e

-- `x` is the item of `xs` at index `i`, and no later item is less than `x`
pub record IsAt {X : Type 0} (lt : X → X → Bool) (xs : List X) (i : ℕ) (x : X) : Type 0 where
  pub here : drop i xs ≡ x ∷ drop (i + 1) xs
  pub later : AllByRecursion (λ y. lt y x ≡ false) (drop (i + 1) xs)

pub at_index : {X : Type 0} (lt : X → X → Bool) (xs : List X) (i : ℕ) (x : X) → Rises lt xs → slice_get xs i ≡ Some x
    → IsAt lt xs i x
at_index lt xs i x r e =
    let here : drop i xs ≡ x ∷ drop (suc i) xs = drop-at xs i x e in
    let rest : Rises lt (x ∷ drop (suc i) xs) = subst (Rises lt) here (Rises-drop lt i xs r) in
    record { here = rw add-one here; later = rw add-one rest.0 }

-- the stretch `s` at index `i` is sound. If `tokens` are sorted by `position`, no stretch at a later index starts
-- before the end of `s`
module _ (position : RawToken → ℕ × ℕ) (tokens : List RawToken) (i : ℕ) (s : Stretch) where
  pub sound_at : slice_get (stretches position tokens) i ≡ Some s → IsSound position s
  sound_at here = All-at (IsSound position) (stretches position tokens) i s here (stretches-sound position tokens)

  pub stretch_within : slice_get (stretches position tokens) i ≡ Some s → i + 1 ≤ length tokens
  stretch_within here =
      let within = slice_get_within (stretches position tokens) i s here in
      omega (arith, within, length-stretches position tokens)

  pub stretch_index : IsSortedByKey position position_cmp tokens → slice_get (stretches position tokens) i ≡ Some s
      → IsAt (λ (u s : Stretch). is_before u.start s.end) (stretches position tokens) i s
  stretch_index up here = at_index (λ (u s : Stretch). is_before u.start s.end) (stretches position tokens) i s
      (stretches_follow position tokens up) here
