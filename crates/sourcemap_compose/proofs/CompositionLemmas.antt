-- A walk along two lists of stretches finds all pairs that overlap.
use Rattle.std.proofs.Common.{◌≡◌, refl, sym, ap, subst, ◌∙◌, ℕ, ◌+◌, ◌≤◌, List, [], ◌∷◌, ◌++◌, length, length-append}
use Rattle.std.proofs.Common.{append_assoc, append-nil, drop, Bool, true, false, ◌||◌, None, slice_get, Result, Ok, Err}
use Rattle.std.proofs.Common.{arith, inl, inr, ◌⊎◌}
use Rattle.std.specs.List.{AllByRecursion, flat_map, list_any}
use Rattle.std.proofs.lemmas.Bool.{cases_Bool, and_left, and_right, and_parts}
use Rattle.std.proofs.lemmas.Bool.Decides.{nat_tests}
use Rattle.sourcemap_tokens.specs.declared.tokens.RawToken.{RawToken}
use Rattle.sourcemap_errors.specs.declared.errors.Error.{Error}
use Rattle.sourcemap_errors.specs.declared.errors.Error.TheVariants.{IncompatibleSourceMap}
use Rattle.sourcemap_tokens.specs.Tokens.{destination, position_cmp, sorted_by}
use Rattle.sourcemap_compose.specs.declared.stretches.Stretch.{Stretch}
use Rattle.sourcemap_compose.specs.declared.stretches.Side.TheVariants.{Original, Adjustment}
use Rattle.sourcemap_compose.specs.Stretches.{is_before, line_end, source, stretches, stretches_by}
use Rattle.sourcemap_compose.specs.Composition.{StartsOnBothLines, composed_all, composition, later_start, overlap}
use Rattle.sourcemap_compose.specs.Composition.{pair, overflows_column}
use Rattle.sourcemap_compose.proofs.StretchesLemmas.{IsAt, IsSound, before-chain, drop-past, not_both_ways}

-- A pair that overlaps.

-- let `end` be at or before the end of the line of `start` (`line_end`). If a position is at or after `start` and
-- before `end`, the position is on the line of `start`, at or after the column of `start`
pub on_the_line : (start end p : ℕ × ℕ) → is_before (line_end start) end ≡ false → is_before p start ≡ false
    → is_before p end ≡ true
    → (start.0 ≡ p.0) × (start.1 ≤ p.1)
on_the_line start end p short from to = (grind (arith, nat_tests), grind (arith, nat_tests))

-- if two sound stretches `a` and `o` overlap, both start on the line of `later_start a o`, at or before that position
pub later-on_the_line : (a o : Stretch) → IsSound source a → IsSound destination o → overlap a o ≡ true
    → (a.start.0 ≡ (later_start a o).0) × (a.start.1 ≤ (later_start a o).1)
    × (o.start.0 ≡ (later_start a o).0) × (o.start.1 ≤ (later_start a o).1)
later-on_the_line a o sound_a sound_o meets =
    let both = and_parts (is_before a.start o.end) (is_before o.start a.end) meets in
    elim (cases_Bool (is_before a.start o.start)) [
      | inl first ↦
          let on = on_the_line a.start a.end o.start sound_a.end (not_both_ways a.start o.start first) both.1 in
          rw first (on.0, on.1, refl, omega arith)
      | inr second ↦
          let on = on_the_line o.start o.end a.start sound_o.end second both.0 in
          rw second (refl, omega arith, on.0, on.1)
    ]

pub reaches_ahead : (a o : Stretch) → IsSound source a → IsSound destination o → overlap a o ≡ true
    → StartsOnBothLines a o
reaches_ahead a o sound_a sound_o meets =
    let on = later-on_the_line a o sound_a sound_o meets in
    record {
      in_adjustment = subst (λ p. p.1 ≤ (later_start a o).1) sound_a.start on.1;
      in_original = on.3;
    }

-- All pairs.

apart : (a o : Stretch) → overlap a o ≡ false → pair a o ≡ []
apart a o e = rw e

-- an adjustment that ends no later than an original has no pair with later originals
none_after : (a o : Stretch) (os : List Stretch) → is_before o.end a.end ≡ false
    → AllByRecursion (λ (u : Stretch). is_before u.start o.end ≡ false) os → flat_map (pair a) os ≡ []
none_after a o [] ends follow = refl
none_after a o (u ∷ us) ends follow =
    let no : overlap a u ≡ false =
    and_right (is_before a.start u.end) (is_before u.start a.end) (before-chain u.start o.end a.end follow.0 ends) in
    rw (apart a u no) (none_after a o us ends follow.1)

-- an original that ends no later than an adjustment has no pair with later adjustments
skipped : (a o : Stretch) (bs os : List Stretch) → is_before a.end o.end ≡ false
    → AllByRecursion (λ (b : Stretch). is_before b.start a.end ≡ false) bs
    → composed_all bs (o ∷ os) ≡ composed_all bs os
skipped a o [] os ends follow = refl
skipped a o (b ∷ bs) os ends follow =
    let after : is_before b.start o.end ≡ false = before-chain b.start a.end o.end follow.0 ends in
    let no : overlap b o ≡ false = and_left (is_before b.start o.end) (is_before o.start b.end) after in
    rw (apart b o no, skipped a o bs os ends follow.1)

pub without_originals : (bs : List Stretch) → composed_all bs [] ≡ []
without_originals [] = refl
without_originals (a ∷ bs) = without_originals bs

first_adjustment : (a o : Stretch) (bs os : List Stretch) → is_before o.end a.end ≡ false
    → AllByRecursion (λ (u : Stretch). is_before u.start o.end ≡ false) os
    → composed_all (a ∷ bs) (o ∷ os) ≡ pair a o ++ composed_all bs (o ∷ os)
first_adjustment a o bs os ends follow = rw (none_after a o os ends follow, append-nil)

first_original : (a o : Stretch) (bs os : List Stretch) → is_before o.end a.end ≡ true
    → AllByRecursion (λ (b : Stretch). is_before b.start a.end ≡ false) bs
    → composed_all (a ∷ bs) (o ∷ os) ≡ pair a o ++ composed_all (a ∷ bs) os
first_original a o bs os ends follow = rw (skipped a o bs os (not_both_ways o.end a.end ends) follow, append_assoc)

first_both : (a o : Stretch) (bs os : List Stretch) → is_before o.end a.end ≡ false → is_before a.end o.end ≡ false
    → AllByRecursion (λ (u : Stretch). is_before u.start o.end ≡ false) os
    → AllByRecursion (λ (b : Stretch). is_before b.start a.end ≡ false) bs
    → composed_all (a ∷ bs) (o ∷ os) ≡ pair a o ++ composed_all bs os
first_both a o bs os ends ends_too after follow =
    first_adjustment a o bs os ends after ∙ ap (λ tokens. pair a o ++ tokens) (skipped a o bs os ends_too follow)

-- The walk: `done` are the tokens of the pairs so far.

list_any-append : {X : Type 0} (t : X → Bool) (xs ys : List X)
    → list_any t (xs ++ ys) ≡ (list_any t xs || list_any t ys)
list_any-append t [] ys = refl
list_any-append t (x ∷ xs) ys =
    rw (list_any-append t xs ys)
    (elim (t x) as (λ b. (b || (list_any t xs || list_any t ys)) ≡ ((b || list_any t xs) || list_any t ys)) [
      | true ↦ refl
      | false ↦ refl
    ])

pub none-append : {X : Type 0} (t : X → Bool) (xs ys : List X) → list_any t xs ≡ false → list_any t ys ≡ false
    → list_any t (xs ++ ys) ≡ false
none-append t xs ys first second = rw (list_any-append t xs ys, first, second) refl

some-append : {X : Type 0} (t : X → Bool) (xs ys zs : List X) → list_any t ys ≡ true
    → list_any t ((xs ++ ys) ++ zs) ≡ true
some-append t xs ys zs passes =
    rw (list_any-append t (xs ++ ys) zs, list_any-append t xs ys, passes) (either (list_any t xs) (list_any t zs))
  where
    either : (b c : Bool) → ((b || true) || c) ≡ true
    either true c = refl
    either false c = refl

pub length-pair : (done : List RawToken) (a o : Stretch) → length (done ++ pair a o) ≤ length done + 1
length-pair done a o =
    elim (cases_Bool (overlap a o)) [
      | inl meets ↦ rw (meets, length-append) (omega arith)
      | inr apart ↦ rw (apart, append-nil) (omega arith)
    ]

module _ (S T : List Stretch) (i j : ℕ) (a o : Stretch)
    (at_a : IsAt (λ (u s : Stretch). is_before u.start s.end) S i a)
    (at_o : IsAt (λ (u s : Stretch). is_before u.start s.end) T j o)
    (done all : List RawToken) (so_far : done ++ composed_all (drop i S) (drop j T) ≡ all) where
  opened : done ++ composed_all (a ∷ drop (i + 1) S) (o ∷ drop (j + 1) T) ≡ all
  opened = subst (λ os. done ++ composed_all (a ∷ drop (i + 1) S) os
      ≡ all) at_o.here (subst (λ bs. done ++ composed_all bs (drop j T) ≡ all) at_a.here so_far)

  pub next_adjustment : is_before o.end a.end ≡ false
      → (done ++ pair a o) ++ composed_all (drop (i + 1) S) (drop j T) ≡ all
  next_adjustment ends =
      append_assoc done (pair a o) (composed_all (drop (i + 1) S) (drop j T))
      ∙ ap (λ os. done ++ (pair a o ++ composed_all (drop (i + 1) S) os)) at_o.here
      ∙ ap (λ tokens. done ++ tokens) (sym (first_adjustment a o (drop (i + 1) S) (drop (j + 1) T) ends at_o.later))
      ∙ opened

  pub next_original : is_before o.end a.end ≡ true
      → (done ++ pair a o) ++ composed_all (drop i S) (drop (j + 1) T) ≡ all
  next_original ends =
      append_assoc done (pair a o) (composed_all (drop i S) (drop (j + 1) T))
      ∙ ap (λ bs. done ++ (pair a o ++ composed_all bs (drop (j + 1) T))) at_a.here
      ∙ ap (λ tokens. done ++ tokens) (sym (first_original a o (drop (i + 1) S) (drop (j + 1) T) ends at_a.later))
      ∙ opened

  pub next_both : is_before o.end a.end ≡ false → is_before a.end o.end ≡ false
      → (done ++ pair a o) ++ composed_all (drop (i + 1) S) (drop (j + 1) T) ≡ all
  next_both ends ends_too =
      append_assoc done (pair a o) (composed_all (drop (i + 1) S) (drop (j + 1) T))
      ∙ ap (λ tokens. done ++ tokens)
      (sym (first_both a o (drop (i + 1) S) (drop (j + 1) T) ends ends_too at_o.later at_a.later))
      ∙ opened

  pub overflows_in_all : list_any overflows_column (pair a o) ≡ true → list_any overflows_column all ≡ true
  overflows_in_all passes =
      elim (cases_Bool (is_before o.end a.end)) [
        | inl first ↦ subst (λ tokens. list_any overflows_column tokens ≡ true) (next_original first)
            (some-append overflows_column done (pair a o) (composed_all (drop i S) (drop (j + 1) T)) passes)
        | inr second ↦ subst (λ tokens. list_any overflows_column tokens ≡ true) (next_adjustment second)
            (some-append overflows_column done (pair a o) (composed_all (drop (i + 1) S) (drop j T)) passes)
      ]

-- at the end of one list, the walk has found all tokens
pub walked_all : (S T : List Stretch) (i j : ℕ) (done all : List RawToken)
    → done ++ composed_all (drop i S) (drop j T) ≡ all
    → (slice_get S i ≡ None) ⊎ (slice_get T j ≡ None) → done ≡ all
walked_all S T i j done all so_far (inl end) =
    let none : drop i S ≡ [] = drop-past S i end in
    sym (ap (λ bs. done ++ composed_all bs (drop j T)) none ∙ append-nil done) ∙ so_far
walked_all S T i j done all so_far (inr end) =
    let none : drop j T ≡ [] = drop-past T j end in
    sym (ap (λ os. done ++ composed_all (drop i S) os) none
    ∙ ap (λ tokens. done ++ tokens) (without_originals (drop i S)) ∙ append-nil done) ∙ so_far

-- The result.

pub sorted_is : (position : RawToken → ℕ × ℕ) (tokens copied chosen : List RawToken)
    → ◌≡◌ {A = Result (List RawToken) Error} (Ok (sorted_by position position_cmp tokens)) (Ok copied) → chosen ≡ copied
    → chosen ≡ sorted_by position position_cmp tokens
sorted_is position tokens copied chosen due is = cc

module _ (original adjustment originals adjustments : List RawToken)
    (is_original : originals ≡ sorted_by destination position_cmp original)
    (is_adjustment : adjustments ≡ sorted_by source position_cmp adjustment) where
  same_all : composed_all (stretches source adjustments) (stretches destination originals)
      ≡ composed_all (stretches_by Adjustment adjustment) (stretches_by Original original)
  same_all = λ i. composed_all (stretches source (is_adjustment i)) (stretches destination (is_original i))

  pub composition-refused : (e : Error)
      → list_any overflows_column (composed_all (stretches source adjustments) (stretches destination originals)) ≡ true
      → e ≡ IncompatibleSourceMap → composition original adjustment ≡ Err e
  composition-refused e passes is =
      let passes' : list_any overflows_column (composed_all (stretches_by Adjustment adjustment)
      (stretches_by Original original)) ≡ true = sym (ap (list_any overflows_column) same_all) ∙ passes in
      rw (passes', is) refl
