-- The index where a search in a line ends determines the closest token. Also bounds for the number of comparisons.
use Rattle.std.proofs.Common.{◌≡◌, refl, sym, ap, subst, ◌∙◌, ℕ, zero, suc, ◌<◌, ◌≤◌, ◌+◌, ◌-◌, ◌*◌, ◌/◌, ◌^◌, arith}
use Rattle.std.proofs.Common.{inl, inr, eq-eqb, min, Bool, not, ◌&&◌, nat_lt, true, false, List, length, get_or, Some}
use Rattle.std.proofs.Common.{None, Option, option_map}
use Rattle.std.proofs.Math.Nat.{pow-succ'}
use Rattle.std.specs.Option.{IfSome, SomeIff}
use Rattle.std.specs.Ordering.{is_eq, is_lt, nat_cmp}
use Rattle.std.proofs.lemmas.Bool.{cases_eq, le-ltb, lt-ltb, ne_eqb}
use mir.Val.{bool_byte}
use Rattle.std.proofs.lemmas.Bool.Decides.{nat_tests}
use Rattle.std.proofs.lemmas.List.{get_or_default}
use Rattle.std.proofs.lemmas.Option.{slice_get_cases}
use Rattle.sourcemap_tokens.specs.Tokens.{AreInOrder, closest_token, destination, position_cmp}
use Rattle.sourcemap_tokens.specs.declared.tokens.RawToken.{RawToken}
use Rattle.sourcemap_tokens.proofs.TokensLemmas.{position_cmp_total}
use Rattle.sourcemap_tokens.proofs.SearchLemmas.{IsApart, IsBracket, closest-hit, closest-miss, closest-none}
use Rattle.sourcemap_line_index.specs.LineIndex.{IsSpan, binary_digits, digits_within}

less_by_line : (q p : ℕ × ℕ) → q.0 < p.0 → is_lt (position_cmp q p) ≡ true
less_by_line (a, b) (c, d) l = grind (arith, nat_tests)

less_by_col : (q p : ℕ × ℕ) → q.0 ≡ p.0 → q.1 < p.1 → is_lt (position_cmp q p) ≡ true
less_by_col (a, b) (c, d) e l = grind (arith, nat_tests)

not_less_by_line : (q p : ℕ × ℕ) → p.0 < q.0 → is_lt (position_cmp q p) ≡ false
not_less_by_line (a, b) (c, d) l = grind (arith, nat_tests)

not_less_by_col : (q p : ℕ × ℕ) → q.0 ≡ p.0 → p.1 ≤ q.1 → is_lt (position_cmp q p) ≡ false
not_less_by_col (a, b) (c, d) e l = grind (arith, nat_tests)

apart_by_line : (q p : ℕ × ℕ) → p.0 < q.0 → is_eq (position_cmp q p) ≡ false
apart_by_line (a, b) (c, d) l = grind (arith, nat_tests)

apart_by_col : (q p : ℕ × ℕ) → is_eq (nat_cmp p.1 q.1) ≡ false → is_eq (position_cmp q p) ≡ false
apart_by_col (a, b) (c, d) e = grind (arith, nat_tests)

same_by_both : (q p : ℕ × ℕ) → q.0 ≡ p.0 → is_eq (nat_cmp p.1 q.1) ≡ true → is_eq (position_cmp q p) ≡ true
same_by_both (a, b) (c, d) e f = grind (arith, nat_tests)

no_step : (index : ℕ) (a : Option ℕ) → SomeIff a (0 ≤ index) (index - 0) → a ≡ Some index
no_step index None none = absurd (none (omega arith))
no_step index (Some k) some = let is = some.1 in ap Some (omega arith)

-- an empty list has no closest token
pub closest-in-none : (tokens : List RawToken) (p : ℕ × ℕ) → AreInOrder tokens → length tokens ≡ 0
    → None ≡ option_map (λ found. found.0) (closest_token tokens p)
closest-in-none tokens p up none =
    let bracket : IsBracket destination position_cmp tokens p 0 0 =
    record { below = λ d some. absurd (omega arith); above = λ d some. absurd (omega (arith, none)) } in
    ap (option_map (λ found. found.0))
    (closest-none position_cmp_total destination tokens p 0 up bracket refl (λ d some. absurd (omega (arith, none))))

-- let the tokens on the line of `p` be those from `low` up to, not including, `high`. A search among these tokens for
-- the column of `p` ended at `index`. `q` is equal to `p`
module _ (tokens : List RawToken) (p : ℕ × ℕ) (low high index : ℕ)
    (up : AreInOrder tokens) (span : IsSpan tokens p.0 low high) (at_least : low ≤ index) (at_most : index ≤ high)
    (q : ℕ × ℕ) (kept : q ≡ p) (before : (d : RawToken) → low < index → (get_or tokens (index - 1) d).dst_col < q.1)
    (from : (d : RawToken) → index < high → q.1 ≤ (get_or tokens index d).dst_col) where
  col : q.1 ≡ p.1
  col = ap (λ k. k.1) kept

  bracket : IsBracket destination position_cmp tokens p index index
  bracket = record {
    below = λ d some. elim (cases_eq low index) [
      | inl first ↦
          let line = span.before d (omega arith) in
          let same : low - 1 ≡ index - 1 = omega arith in
          less_by_line (destination (get_or tokens (index - 1) d)) p
          (subst (λ k. (get_or tokens k d).dst_line < p.0) same line)
      | inr other ↦ less_by_col (destination (get_or tokens (index - 1) d)) p (span.on_line (index - 1) d (omega arith)
          (omega arith)) (subst (λ n. (get_or tokens (index - 1) d).dst_col < n) col (before d (omega arith)))
    ];
    above = λ d l. elim (cases_eq index high) [
      | inl last ↦ not_less_by_line (destination (get_or tokens index d)) p (subst
          (λ k. p.0 < (get_or tokens k d).dst_line) (sym last) (span.after d (omega arith)))
      | inr other ↦ not_less_by_col (destination (get_or tokens index d)) p (span.on_line index d at_least
          (omega arith)) (subst (λ n. n ≤ (get_or tokens index d).dst_col) col (from d (omega arith)))
    ];
  }

  -- if the token at `index` is at `p`, `index` is the index of the token closest to `p`
  index-hit : (e : RawToken) (r : ℕ × ℕ) → r ≡ q → index < high → is_eq (nat_cmp r.1 (get_or tokens index e).dst_col)
      ≡ true → Some index ≡ option_map (λ found. found.0) (closest_token tokens p)
  index-hit e r still l same =
      let inside = span.inside in
      let is =
      closest-hit position_cmp_total destination tokens p index up bracket (get_or tokens index e) (omega arith)
      (get_or_default tokens index e (get_or tokens index e) (omega arith))
      (same_by_both (destination (get_or tokens index e)) p (span.on_line index e at_least l)
      (subst (λ k. is_eq (nat_cmp k.1 (get_or tokens index e).dst_col) ≡ true) (still ∙ kept) same)) in
      ap (option_map (λ found. found.0)) is

  -- let `index` be less than `high`. If the column of the token at `index` differs from the column of `p`, this token
  -- is not at `p` (`IsApart`)
  index-apart : (e : RawToken) (r : ℕ × ℕ) → r ≡ q → index < high
      → is_eq (nat_cmp r.1 (get_or tokens index e).dst_col) ≡ false → IsApart destination position_cmp tokens p index
  index-apart e r still l other d inside = apart_by_col (destination (get_or tokens index d)) p (subst
      (λ k. is_eq (nat_cmp k.1 (get_or tokens index d).dst_col) ≡ false) (still ∙ kept)
      (subst (λ t. is_eq (nat_cmp r.1 t.dst_col) ≡ false) (get_or_default tokens index e d inside) other))

  index-past : high ≤ index → IsApart destination position_cmp tokens p index
  index-past past d inside =
      let last : high ≡ index = omega arith in
      apart_by_line (destination (get_or tokens index d)) p
      (subst (λ k. p.0 < (get_or tokens k d).dst_line) last (span.after d (omega arith)))

  index-miss : IsApart destination position_cmp tokens p index → (r : Option ℕ) → SomeIff r (1 ≤ index) (index - 1)
      → r ≡ option_map (λ found. found.0) (closest_token tokens p)
  index-miss apart None none =
      let front : index ≡ 0 = elim (cases_eq index 0) [ inl e ↦ e | inr other ↦ absurd (none (omega arith)) ] in
      ap (option_map (λ found. found.0))
      (closest-none position_cmp_total destination tokens p index up bracket front apart)
  index-miss apart (Some r) some =
      let inside = span.inside in
      let found = slice_get_cases tokens (index - 1) in
      elim found.1 [
        | inl here ↦
            let is = closest-miss position_cmp_total destination tokens p index up bracket here.0 some.0 (omega arith)
            (sym here.3) apart in
            ap Some some.1 ∙ ap (option_map (λ found. found.0)) is
        | inr outside ↦ let past = outside.0 in let least = some.0 in absurd (omega arith)
      ]

  closest-at-index-inside : (e : RawToken) (r : ℕ × ℕ) → r ≡ q → index < high → (b : Bool)
      → b ≡ is_eq (nat_cmp r.1 (get_or tokens index e).dst_col) → (back : ℕ) → back ≡ bool_byte (not (true && b))
      → (a : Option ℕ) → SomeIff a (back ≤ index) (index - back)
      → a ≡ option_map (λ found. found.0) (closest_token tokens p)
  closest-at-index-inside e r still l true same back stepped a found =
      no_step index a (subst (λ k. SomeIff a (k ≤ index) (index - k)) stepped found) ∙ index-hit e r still l (sym same)
  closest-at-index-inside e r still l false same back stepped a found =
      index-miss (index-apart e r still l (sym same)) a (subst (λ k. SomeIff a (k ≤ index) (index - k)) stepped found)

  -- if the token at `index` is at `p`, the token closest to `p` has the index `index`. Otherwise the closest token has
  -- the index `index - 1`, or if `index` is 0, there is no closest token
  pub closest-at-index : (e : RawToken) (n : ℕ) (r : ℕ × ℕ) → r ≡ q → (index < high → n ≡ index) → (b : Bool) → b
      ≡ is_eq (nat_cmp r.1 (get_or tokens n e).dst_col) → (back : ℕ) → back ≡ bool_byte (not (nat_lt index high && b))
      → (a : Option ℕ) → SomeIff a (back ≤ index) (index - back)
      → a ≡ option_map (λ found. found.0) (closest_token tokens p)
  closest-at-index e n r still here b same back stepped a found =
      elim (cases_eq index high) [
        | inl last ↦
            let one : back ≡ 1 = stepped ∙ ap (λ t. bool_byte (not (t && b))) (le-ltb index high (omega arith)) in
            index-miss (index-past (omega arith)) a (subst (λ k. SomeIff a (k ≤ index) (index - k)) one found)
        | inr other ↦
            let l : index < high = omega arith in
            let at : b ≡ is_eq (nat_cmp r.1 (get_or tokens index e).dst_col) =
            same ∙ ap (λ k. is_eq (nat_cmp r.1 (get_or tokens k e).dst_col)) (here l) in
            closest-at-index-inside e r still l b at back
            (stepped ∙ ap (λ t. bool_byte (not (t && b))) (lt-ltb index high l)) a found
      ]

-- let `index` be at most `count`. Let `r` be `Some (index - 1)`, or `None` if `index` is 0. Then a number in `r` is
-- below `count`
pub inside_before : (index count : ℕ) (r : Option ℕ) → SomeIff r (1 ≤ index) (index - 1) → index ≤ count
    → IfSome r (λ k. k < count)
inside_before index count None none l = tt
inside_before index count (Some k) some l = let least = some.0 in let is = some.1 in omega arith

half_of : (n most : ℕ) → n ≤ suc most → n / 2 ≤ most
half_of n most l = omega arith

twice : (n power : ℕ) → n / 2 < power → n < 2 * power
twice n power l = omega arith

digits_suffice : (most n : ℕ) → n ≤ most → n < 2 ^ (digits_within most n)
digits_suffice zero n l = omega arith
digits_suffice (suc most) n l =
    let later : n / 2 < 2 ^ (digits_within most (n / 2)) = digits_suffice most (n / 2) (half_of n most l) in
    elim (cases_eq n 0) [
      | inl none ↦ rw (eq-eqb n 0 none) (omega arith)
      | inr some ↦ rw (ne_eqb n 0 some, pow-succ' 2 (digits_within most (n / 2))) (twice n _ later)
    ]

-- a count is below 2 to the power of the number of its binary digits
pub binary_digits_suffice : (n : ℕ) → n < 2 ^ (binary_digits n)
binary_digits_suffice n = digits_suffice n n (omega arith)

half_below : (n power : ℕ) → n < 2 * power → n / 2 < power
half_below n power l = omega arith

fewest_within : (most n d : ℕ) → n ≤ most → n < 2 ^ d → digits_within most n ≤ d
fewest_within zero n d l small = omega arith
fewest_within (suc most) n d l small =
    elim (cases_eq n 0) [
      | inl none ↦ rw (eq-eqb n 0 none) (omega arith)
      | inr some ↦ rw (ne_eqb n 0 some) (elim (cases_eq d 0) [
        | inl empty ↦ let one : n < 2 ^ 0 = subst (λ k. n < 2 ^ k) empty small in absurd (omega arith)
        | inr more ↦
            let back : suc (d - 1) ≡ d = omega arith in
            let twice : n < 2 * 2 ^ (d - 1) =
            subst (λ k. n < k) (pow-succ' 2 (d - 1)) (subst (λ k. n < 2 ^ k) (sym back) small) in
            let later : digits_within most (n / 2) ≤ d - 1 =
            fewest_within most (n / 2) (d - 1) (half_of n most l) (half_below n (2 ^ (d - 1)) twice) in
            omega arith
      ])
    ]

pub binary_digits_fewest : (n d : ℕ) → n < 2 ^ d → binary_digits n ≤ d
binary_digits_fewest n d small = fewest_within n n d (omega arith) small

thirty_two_times : (d : ℕ) → 2 ^ suc (suc (suc (suc (suc d)))) ≡ 2 * (2 * (2 * (2 * (2 * 2 ^ d))))
thirty_two_times d = rw (
  pow-succ' 2 (suc (suc (suc (suc d)))),
  pow-succ' 2 (suc (suc (suc d))),
  pow-succ' 2 (suc (suc d)),
  pow-succ' 2 (suc d),
  pow-succ' 2 d,
) refl

-- let a list with samples have fewer than `2 ^ d` tokens. The lines with tokens have at least 32 tokens on average, so
-- there are fewer than `2 ^ (d - 5)` such lines. The search for the line, with the test whether the line was found,
-- makes at most `d - 4` comparisons. The search for the column makes at most `d + 5`. Both searches together make at
-- most `2 * d + 1`
count_by_few_lines : (d count lines start found left : ℕ) → count < 2 ^ d → 0 < lines → 32 * lines ≤ count
    → ((e : ℕ) → lines < 2 ^ e → found ≤ start + (e + 1)) → left ≤ found + (d + 5) → left ≤ start + (2 * d + 1)
count_by_few_lines zero count lines start found left small some few f l = absurd (omega arith)
count_by_few_lines (suc zero) count lines start found left small some few f l = absurd (omega arith)
count_by_few_lines (suc (suc zero)) count lines start found left small some few f l = absurd (omega arith)
count_by_few_lines (suc (suc (suc zero))) count lines start found left small some few f l = absurd (omega arith)
count_by_few_lines (suc (suc (suc (suc zero)))) count lines start found left small some few f l = absurd (omega arith)
count_by_few_lines (suc (suc (suc (suc (suc d))))) count lines start found left small some few f l =
    let all : count < 2 * (2 * (2 * (2 * (2 * 2 ^ d)))) = subst (λ n. count < n) (thirty_two_times d) small in
    let line : found ≤ start + (d + 1) = f d (omega arith) in
    omega arith

-- with fewer than `2 ^ d` tokens, at most `2 * d + 1` comparisons come before the last one. The search for the line,
-- one test whether the line was found, and the search for the column make these comparisons
pub count_before_last : (count lines samples start found left d : ℕ)
    → count < 2 ^ d → lines ≤ count → (lines ≡ 0 → count ≡ 0) → (0 < samples → (0 < count) × (32 * lines ≤ count))
    → ((e : ℕ) → lines < 2 ^ e → found ≤ start + (e + 1))
    → ((e : ℕ) → samples ≡ 0 → count < 2 ^ e → left ≤ found + e) → ((e : ℕ) → count < 2 ^ e → left ≤ found + (e + 5))
    → left ≤ start + (2 * d + 1)
count_before_last count lines samples start found left d small few filled sampled f none some =
    elim (cases_eq samples 0) [
      | inl empty ↦ let line = f d (omega arith) in let column = none d empty small in omega arith
      | inr any ↦
          let many = sampled (omega arith) in
          elim (cases_eq lines 0) [
            | inl empty ↦ let never = filled empty in let least = many.0 in absurd (omega arith)
            | inr held ↦ count_by_few_lines d count lines start found left small (omega arith) many.1 f (some d small)
          ]
    ]

-- with the last comparison, there are at most `2 * (d + 1)` comparisons
pub count_in_all : (start left end d : ℕ) → left ≤ start + (2 * d + 1) → end ≡ min (left + 1) 4294967295
    → end ≤ start + 2 * (d + 1)
count_in_all start left end d l e = omega arith
