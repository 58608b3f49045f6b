-- Let the premises of the law `moved_positions_answer_as_before` hold for a position `q`, which a stretch `a` of the
-- adjustment moves to `moved a q`. Then `moved a q` has the same origin in the composition as `q` has in the original.
use Rattle.std.proofs.Common.{◌≡◌, refl, sym, ap, subst, ◌∙◌, ℕ, suc, ◌+◌, ◌-◌, ◌<◌, ◌≤◌, min, List, [], ◌∷◌, ◌++◌}
use Rattle.std.proofs.Common.{Bool, true, false, cond, not, ◌&&◌, if◌then◌else◌, Some, slice_get, Result, Ok, Err, ◌==◌}
use Rattle.std.proofs.Common.{arith, inl, inr}
use Rattle.std.specs.List.{AllByRecursion, Contains, flat_map, list_any}
use Rattle.std.proofs.lemmas.Bool.{cases_Bool, and_from, and_parts, eq-eqb, eqb-true, false≢true}
use Rattle.std.proofs.lemmas.Bool.Decides.{nat_tests}
use Rattle.sourcemap_errors.specs.declared.errors.Error.{Error}
use Rattle.sourcemap_errors.specs.declared.errors.Error.TheVariants.{IncompatibleSourceMap}
use Rattle.sourcemap_tokens.specs.declared.tokens.RawToken.{RawToken}
use Rattle.sourcemap_tokens.specs.Search.{closest_item}
use Rattle.sourcemap_tokens.specs.Tokens.{AllWithin, AreInOrder, IsWithin, destination, in_order, no_id, position_cmp}
use Rattle.sourcemap_tokens.specs.Tokens.{sorted_by}
use Rattle.sourcemap_tokens.proofs.AllLemmas.{All-flat_map, All-weaker}
use Rattle.sourcemap_tokens.proofs.SortLemmas.{All-sorted_by, Rises, Rises-sorted_by}
use Rattle.sourcemap_tokens.proofs.TokensLemmas.{AllWithin-in_order, in_order-ordered, position_cmp_total}
use Rattle.sourcemap_compose.specs.declared.stretches.Side.TheVariants.{Original, Adjustment}
use Rattle.sourcemap_compose.specs.declared.stretches.Stretch.{Stretch}
use Rattle.sourcemap_compose.specs.Stretches.{earlier, end_before, is_before, line_end, source, stretches, stretches_by}
use Rattle.sourcemap_compose.specs.Composition.{composed, composed_all, composition, later_start, moved, overlap, pair}
use Rattle.sourcemap_compose.specs.Composition.{overflows_column}
use Rattle.sourcemap_compose.specs.Moved.{IsAloneUpTo, IsMovedAlone, ClosestIsOnLine, LiesIn, HasDistinctDestinations}
use Rattle.sourcemap_compose.specs.Moved.{origin, origin_by}
use Rattle.sourcemap_compose.proofs.StretchesLemmas.{IsSound, Rises-stretches, after-before, before-after, before-chain}
use Rattle.sourcemap_compose.proofs.StretchesLemmas.{not_before_itself, same_from_neither, stretches-sound}
use Rattle.sourcemap_compose.proofs.CompositionLemmas.{later-on_the_line, on_the_line}
use Rattle.sourcemap_compose.proofs.ClosestLemmas.{All-from_in, All-in, Contains-from_in, IsIn, closest-greatest}
use Rattle.sourcemap_compose.proofs.ClosestLemmas.{closest-only, in-sorted, in_from_Contains}

-- Tokens with distinct destinations.

abbrev AreApart : List RawToken → Type 0
AreApart [] = Unit {0}
AreApart (t ∷ ts) = AllByRecursion (λ u. destination t ≡ destination u → ⊥) ts × AreApart ts

apart_from_destinations : (tokens : List RawToken) → HasDistinctDestinations tokens → AreApart tokens
apart_from_destinations [] apart = tt
apart_from_destinations (t ∷ ts) apart = (
  each ts (λ k u here same. let impossible : 0 ≡ suc k = apart 0 (suc k) t u refl here same in absurd (omega arith)),
  apart_from_destinations ts (λ i j s u at_i at_j same. let next : suc i ≡ suc j =
      apart (suc i) (suc j) s u at_i at_j same in omega arith),
)
  where
    each : (us : List RawToken) → ((k : ℕ) (u : RawToken) → slice_get us k ≡ Some u → destination t ≡ destination u → ⊥)
        → AllByRecursion (λ u. destination t ≡ destination u → ⊥) us
    each [] at = tt
    each (u ∷ us) at = (at 0 u refl, each us (λ k w here. at (suc k) w here))

-- The stretch of the closest token.

module _ (q : ℕ × ℕ) (t : RawToken) (on_line : t.dst_line ≡ q.0) (short : q.1 < 4294967295)
    (reached : is_before q (destination t) ≡ false) where
  before_line_end : is_before q (line_end (destination t)) ≡ true
  before_line_end = grind (arith, nat_tests)

  ends_after : (rest : List RawToken)
      → AllByRecursion (λ u. is_before (destination u) (destination t) ≡ false) rest
      → AllByRecursion (λ u. destination t ≡ destination u → ⊥) rest
      → AllByRecursion (λ u. is_before q (destination u) ≡ false
      → is_before (destination t) (destination u) ≡ false) rest
      → is_before q (end_before destination t (slice_get rest 0)) ≡ true
  ends_after [] above apart others = before_line_end
  ends_after (next ∷ rest) above apart others =
      elim (cases_Bool (is_before q (destination next))) [
        | inl before ↦ earliest (destination next) before
        | inr follows ↦
            absurd (apart.0 (same_from_neither (destination t) (destination next) (others.0 follows) above.0))
      ]
    where
      earliest : (p : ℕ × ℕ) → is_before q p ≡ true → is_before q (earlier p (line_end (destination t))) ≡ true
      earliest p before =
          elim (is_before p (line_end (destination t)))
          as (λ b. is_before q (cond b p (line_end (destination t))) ≡ true) [
            | true ↦ before
            | false ↦ before_line_end
          ]

  pub stretch_of : (tokens : List RawToken) → Rises (λ a b. is_before (destination a) (destination b)) tokens
      → AreApart tokens → IsIn t tokens
      → AllByRecursion (λ u. is_before q (destination u) ≡ false
      → is_before (destination t) (destination u) ≡ false) tokens
      → (s : Stretch) × IsIn s (stretches destination tokens) × (s.token ≡ t) × LiesIn q s
  stretch_of [] r apart is others = absurd is
  stretch_of (u ∷ rest) r apart (inr is) others =
      let later = stretch_of rest r.1 apart.1 is others.1 in
      (later.0, inr later.1, later.2, later.3)
  stretch_of (u ∷ rest) r apart (inl same) others = (
    record { token = u; start = destination u; end = end_before destination u (slice_get rest 0) },
    inl refl,
    same,
    (
      subst (λ w. is_before q (destination w) ≡ false) (sym same) reached,
      subst (λ w. AllByRecursion (λ y. is_before (destination y) (destination w) ≡ false) rest
          → AllByRecursion (λ y. destination w ≡ destination y → ⊥) rest
          → is_before q (end_before destination w (slice_get rest 0)) ≡ true) (sym same)
          (λ above away. ends_after rest above away others.1) r.0 apart.0,
    ),
  )

-- Two stretches of tokens in order with distinct destinations.

starts_of : (P : ℕ × ℕ → Type 0) (tokens : List RawToken) → AllByRecursion (λ t. P (destination t)) tokens
    → AllByRecursion (λ (s : Stretch). P s.start) (stretches destination tokens)
starts_of P [] all = tt
starts_of P (t ∷ ts) all = (all.0, starts_of P ts all.1)

one_start : (tokens : List RawToken) → AreApart tokens → (s o : Stretch) → IsIn s (stretches destination tokens)
    → IsIn o (stretches destination tokens) → s.start ≡ o.start → o ≡ s
one_start [] apart s o in_s in_o same = absurd in_s
one_start (t ∷ ts) apart s o (inl is_s) (inl is_o) same = sym is_o ∙ is_s
one_start (t ∷ ts) apart s o (inl is_s) (inr in_o) same =
    absurd (All-in (λ (u : Stretch). destination t ≡ u.start → ⊥) o (stretches destination ts)
    (starts_of (λ p. destination t ≡ p → ⊥) ts apart.0) in_o (ap (λ (u : Stretch). u.start) is_s ∙ same))
one_start (t ∷ ts) apart s o (inr in_s) (inl is_o) same =
    absurd (All-in (λ (u : Stretch). destination t ≡ u.start → ⊥) s (stretches destination ts)
    (starts_of (λ p. destination t ≡ p → ⊥) ts apart.0) in_s (ap (λ (u : Stretch). u.start) is_o ∙ sym same))
one_start (t ∷ ts) apart s o (inr in_s) (inr in_o) same = one_start ts apart.1 s o in_s in_o same

-- if `o` starts after the start of `s`, `o` starts at or after the end of `s`
starts_after : (tokens : List RawToken) → Rises (λ a b. is_before (destination a) (destination b)) tokens
    → (s o : Stretch) → IsIn s (stretches destination tokens) → IsIn o (stretches destination tokens)
    → is_before s.start o.start ≡ true → is_before o.start s.end ≡ false
starts_after [] r s o in_s in_o before = absurd in_s
starts_after (t ∷ ts) r s o (inl is_s) (inl is_o) before =
    let never : is_before s.start s.start ≡ true =
    subst (λ (u : Stretch). is_before s.start u.start ≡ true) (sym is_o ∙ is_s) before in
    absurd (false≢true (sym (not_before_itself s.start) ∙ never))
starts_after (t ∷ ts) r s o (inl is_s) (inr in_o) before =
    subst (λ (u : Stretch). is_before o.start u.end ≡ false) is_s
    (All-in (λ (u : Stretch). is_before u.start (end_before destination t (slice_get ts 0)) ≡ false) o
    (stretches destination ts) (Rises-stretches destination (t ∷ ts) r).0 in_o)
starts_after (t ∷ ts) r s o (inr in_s) (inl is_o) before =
    let above : is_before s.start (destination t) ≡ false = All-in (λ (u : Stretch). is_before u.start (destination t)
    ≡ false) s (stretches destination ts) (starts_of (λ p. is_before p (destination t) ≡ false) ts r.0) in_s in
    let never : is_before s.start o.start ≡ false =
    subst (λ (u : Stretch). is_before s.start u.start ≡ false) is_o above in
    absurd (false≢true (sym never ∙ before))
starts_after (t ∷ ts) r s o (inr in_s) (inr in_o) before = starts_after ts r.1 s o in_s in_o before

-- Pairs.

in-append_left : {X : Type 0} (x : X) (xs ys : List X) → IsIn x xs → IsIn x (xs ++ ys)
in-append_left x [] ys is = absurd is
in-append_left x (z ∷ zs) ys (inl e) = inl e
in-append_left x (z ∷ zs) ys (inr is) = inr (in-append_left x zs ys is)

in-append_right : {X : Type 0} (x : X) (xs ys : List X) → IsIn x ys → IsIn x (xs ++ ys)
in-append_right x [] ys is = is
in-append_right x (z ∷ zs) ys is = inr (in-append_right x zs ys is)

in-flat_map : {X Y : Type 0} (f : X → List Y) (x : X) (y : Y) (xs : List X) → IsIn x xs → IsIn y (f x)
    → IsIn y (flat_map f xs)
in-flat_map f x y [] is here = absurd is
in-flat_map f x y (z ∷ zs) (inl e) here =
    in-append_left y (f z) (flat_map f zs) (subst (λ w. IsIn y (f w)) (sym e) here)
in-flat_map f x y (z ∷ zs) (inr is) here = in-append_right y (f z) (flat_map f zs) (in-flat_map f x y zs is here)

pair_in_all : (a o : Stretch) (bs os : List Stretch) → IsIn a bs → IsIn o os → overlap a o ≡ true
    → IsIn (composed a o) (composed_all bs os)
pair_in_all a o bs os in_a in_o meets =
    let here : IsIn (composed a o) (pair a o) = rw meets (inl refl) in
    in-flat_map (λ b. flat_map (pair b) os) a (composed a o) bs in_a
    (in-flat_map (pair a) o (composed a o) os in_o here)

pub All-composed : (P : RawToken → Type 0) (bs os : List Stretch)
    → ((b o : Stretch) → IsIn b bs → IsIn o os → overlap b o ≡ true → P (composed b o))
    → AllByRecursion P (composed_all bs os)
All-composed P bs os each =
    All-flat_map P (λ b. flat_map (pair b) os) bs
    (All-from_in (λ b. AllByRecursion P (flat_map (pair b) os)) bs (λ b in_b.
    All-flat_map P (pair b) os
    (All-from_in (λ o. AllByRecursion P (pair b o)) os (λ o in_o.
    elim (cases_Bool (overlap b o)) [
      | inl meets ↦ rw meets (each b o in_b in_o meets, tt)
      | inr away ↦ rw away tt
    ]))))

-- Positions on a line, and where an adjustment moves them.

column_le : (p q : ℕ × ℕ) → is_before q p ≡ false → p.0 ≡ q.0 → p.1 ≤ q.1
column_le p q after same = grind (arith, nat_tests)

column_lt : (p q : ℕ × ℕ) → is_before p q ≡ true → p.0 ≡ q.0 → p.1 < q.1
column_lt p q before same = grind (arith, nat_tests)

short_of_the_end : (start end p : ℕ × ℕ) → is_before (line_end start) end ≡ false → is_before p end ≡ true
    → start.0 ≡ p.0 → p.1 < 4294967295
short_of_the_end start end p short before same = grind (arith, nat_tests)

same_line_order : (line m n : ℕ) → m ≤ n → is_before (line, n) (line, m) ≡ false
same_line_order line m n up = grind (arith, nat_tests)

same_line_before : (line m n : ℕ) → m < n → is_before (line, m) (line, n) ≡ true
same_line_before line m n up = grind (arith, nat_tests)

moved-order : (a : Stretch) (p q : ℕ × ℕ) → p.1 ≤ q.1 → is_before (moved a q) (moved a p) ≡ false
moved-order a p q up = same_line_order a.token.dst_line (p.1 - a.token.src_col + a.token.dst_col) (q.1 - a.token.src_col
    + a.token.dst_col) (omega arith)

moved-before : (a : Stretch) (p q : ℕ × ℕ) → a.token.src_col ≤ p.1 → p.1 < q.1
    → is_before (moved a p) (moved a q) ≡ true
moved-before a p q reached up = same_line_before a.token.dst_line (p.1 - a.token.src_col + a.token.dst_col) (q.1
    - a.token.src_col + a.token.dst_col) (omega arith)

later-reaches : (a o : Stretch) → is_before (later_start a o) o.start ≡ false
later-reaches a o =
    elim (cases_Bool (is_before a.start o.start)) [
      | inl first ↦ rw first (not_before_itself o.start)
      | inr second ↦ rw second second
    ]

later-least : (a o : Stretch) (P : ℕ × ℕ → Type 0) → P a.start → P o.start → P (later_start a o)
later-least a o P at_a at_o =
    elim (is_before a.start o.start) as (λ b. P (cond b o.start a.start)) [ true ↦ at_o | false ↦ at_a ]

-- let `from` equal `dst_col`, let `from ≤ at ≤ to`, and let `c ≤ at`. Adding `at - from` to a column, and then `to -
-- at`, has the same result as adding `to - from` at once. The lemma writes `to - at` as the difference of the moved
-- columns `to - c + d` and `at - c + d`. A sum above 4294967295 becomes 4294967295
parts_add_up : (col c d from dst_col at to : ℕ) → from ≡ dst_col → c ≤ at → from ≤ at → at ≤ to
    → min (min (col + (at - from)) 4294967295 + (to - c + d - (at - c + d))) 4294967295
    ≡ min (col + (to - dst_col)) 4294967295
parts_add_up col c d from dst_col at to same one two three = omega arith

columns_add_up : (is_range : Bool) (id col line dst_line dst_col from c d at q_line q_col : ℕ)
    → (id ≡ 4294967295 → col ≡ 4294967295) → dst_line ≡ q_line
    → from ≡ dst_col → c ≤ at → from ≤ at → at ≤ q_col
    → min ((if is_range && not (id == 4294967295) then min (col + (at - from)) 4294967295 else col)
    + (if is_range && (line == line) then q_col - c + d - (at - c + d) else 0)) 4294967295
    ≡ min (col + (if is_range && (dst_line == q_line) then q_col - dst_col else 0)) 4294967295
columns_add_up false id col line dst_line dst_col from c d at q_line q_col sourceless on_line same one two three = refl
columns_add_up true id col line dst_line dst_col from c d at q_line q_col sourceless on_line same one two three =
    let here : (line == line) ≡ true = eq-eqb line line refl in
    let there : (dst_line == q_line) ≡ true = eq-eqb dst_line q_line on_line in
    elim (cases_Bool (id == 4294967295)) [
      | inl bare ↦
          let none : col ≡ 4294967295 = sourceless (eqb-true id 4294967295 bare) in
          rw (here, there, bare) (omega arith)
      | inr sourced ↦ rw (here, there, sourced) (parts_add_up col c d from dst_col at q_col same one two three)
    ]

-- A position `q` that lies both in a stretch `a` of the adjustment and in a stretch `s` of the original.

module _ (ts : List RawToken) (bs : List Stretch) (r : Rises (λ a b. is_before (destination a) (destination b)) ts)
    (apart : AreApart ts)
    (sounds : AllByRecursion (IsSound source) bs) (a s : Stretch) (q : ℕ × ℕ)
    (in_a : IsIn a bs) (in_s : IsIn s (stretches destination ts)) (inside_a : LiesIn q a) (inside_s : LiesIn q s) where
  sound_a : IsSound source a
  sound_a = All-in (IsSound source) a bs sounds in_a

  sound_o : (o : Stretch) → IsIn o (stretches destination ts) → IsSound destination o
  sound_o o in_o = All-in (IsSound destination) o (stretches destination ts) (stretches-sound destination ts) in_o

  meets : overlap a s ≡ true
  meets = and_from (is_before a.start s.end) (is_before s.start a.end)
      (after-before a.start q s.end inside_a.0 inside_s.1) (after-before s.start q a.end inside_s.0 inside_a.1)

  -- the start of `a` is on the line of q. If `a` and `o` overlap, the later one of their two starts (`later_start a o`)
  -- is on the line of q too
  line_a : (a.start.0 ≡ q.0) × (a.start.1 ≤ q.1)
  line_a = on_the_line a.start a.end q sound_a.end inside_a.0 inside_a.1

  source_col : a.start.1 ≡ a.token.src_col
  source_col = ap (λ (p : ℕ × ℕ). p.1) sound_a.start

  line_later : (o : Stretch) → IsIn o (stretches destination ts) → overlap a o ≡ true
      → ((later_start a o).0 ≡ q.0) × (a.token.src_col ≤ (later_start a o).1)
  line_later o in_o meets_o =
      let on = later-on_the_line a o sound_a (sound_o o in_o) meets_o in
      (sym on.0 ∙ line_a.0, omega (arith, on.1, source_col))

  reached_later : (later_start a s).1 ≤ q.1
  reached_later = column_le (later_start a s) q (later-least a s (λ p. is_before q p ≡ false) inside_a.0 inside_s.0)
      (line_later s in_s meets).0

  -- let the stretch `o` of the original overlap `a`. If the generated position of `composed a o` is at or after the
  -- generated position of `composed a s`, and at or before `moved a q`, then `o` is `s`
  only_here : (o : Stretch) → IsIn o (stretches destination ts) → overlap a o ≡ true
      → is_before (destination (composed a o)) (destination (composed a s)) ≡ false
      → is_before (moved a q) (destination (composed a o)) ≡ false → o ≡ s
  only_here o in_o meets_o after not_past =
      let line_o = line_later o in_o meets_o in
      let line_s = line_later s in_s meets in
      elim (cases_Bool (is_before s.start o.start)) [
        | inl follows ↦
            let past : is_before q o.start ≡ true =
            before-after q s.end o.start inside_s.1 (starts_after ts r s o in_s in_o follows) in
            let past_later : is_before q (later_start a o) ≡ true =
            before-after q o.start (later_start a o) past (later-reaches a o) in
            let more : q.1 < (later_start a o).1 = column_lt q (later_start a o) past_later (sym line_o.0) in
            let never : is_before (moved a q) (moved a (later_start a o)) ≡ true =
            moved-before a q (later_start a o) (omega (arith, line_a.1, source_col)) more in
            absurd (false≢true (sym not_past ∙ never))
        | inr not_after ↦ elim (cases_Bool (is_before o.start s.start)) [
          | inl before ↦
              let ends : is_before s.start o.end ≡ false = starts_after ts r o s in_o in_s before in
              let first : is_before a.start s.start ≡ true = before-after a.start o.end s.start (and_parts
              (is_before a.start o.end) (is_before o.start a.end) meets_o).0 ends in
              let here : later_start a s ≡ s.start = rw first refl in
              let less : is_before (later_start a o) (later_start a s) ≡ true =
              rw here (later-least a o (λ p. is_before p s.start ≡ true) first before) in
              let never : is_before (moved a (later_start a o)) (moved a (later_start a s)) ≡ true =
              moved-before a (later_start a o) (later_start a s) line_o.1
              (column_lt (later_start a o) (later_start a s) less (line_o.0 ∙ sym line_s.0)) in
              absurd (false≢true (sym after ∙ never))
          | inr not_before ↦ one_start ts apart s o in_s in_o (same_from_neither s.start o.start not_after not_before)
        ]
      ]

  abbrev is_only : RawToken → Type 0
  is_only y = is_before (destination y) (destination (composed a s)) ≡ false
      → is_before (moved a q) (destination y) ≡ false → y ≡ composed a s

  only_from_alone : IsAloneUpTo (moved a q) a bs (stretches destination ts)
      → (b o : Stretch) → IsIn b bs → IsIn o (stretches destination ts) → overlap b o ≡ true → is_only (composed b o)
  only_from_alone alone b o in_b in_o meets_b after not_past =
      let from_start : is_before (destination (composed b o)) (moved a a.start) ≡ false =
      before-chain (destination (composed b o)) (destination (composed a s)) (moved a a.start) after
      (moved-order a a.start (later_start a s) (omega (arith, (line_later s in_s meets).1, source_col))) in
      let own : b ≡ a = alone b o (Contains-from_in b bs in_b) (Contains-from_in o
      (stretches destination ts) in_o) meets_b from_start not_past in
      let same : o ≡ s = only_here o in_o (subst (λ c. overlap c o ≡ true) own meets_b)
      (subst (λ c. is_before (destination (composed c o)) (destination (composed a s)) ≡ false) own after)
      (subst (λ c. is_before (moved a q) (destination (composed c o)) ≡ false) own not_past) in
      λ i. composed (own i) (same i)

  pub closest_here : IsAloneUpTo (moved a q) a bs (stretches destination ts)
      → closest_item destination position_cmp (in_order (composed_all bs (stretches destination ts))) (moved a q)
      ≡ Some (composed a s)
  closest_here alone =
      let all = composed_all bs (stretches destination ts) in
      closest-only (moved a q) (composed a s) (in_order all)
      (Rises-sorted_by destination position_cmp_total all)
      (in-sorted (composed a s) all (pair_in_all a s bs (stretches destination ts) in_a in_s meets))
      (moved-order a (later_start a s) q reached_later)
      (All-sorted_by destination position_cmp_total is_only all
      (All-composed is_only bs (stretches destination ts) (only_from_alone alone)))

  pub same_origin : (s.token.src_id ≡ no_id → s.token.src_col ≡ no_id) → s.token.dst_line ≡ q.0
      → origin_by (composed a s) (moved a q) ≡ origin_by s.token q
  same_origin sourceless on_line =
      let on = later-on_the_line a s sound_a (sound_o s in_s) meets in
      let column = columns_add_up s.token.is_range s.token.src_id s.token.src_col a.token.dst_line s.token.dst_line
      s.token.dst_col s.start.1 a.token.src_col a.token.dst_col (later_start a s).1 q.0 q.1 sourceless on_line
      (ap (λ (p : ℕ × ℕ). p.1) (sound_o s in_s).start) (line_later s in_s meets).1 on.3 reached_later in
      λ i. record {
        source = s.token.src_id;
        line = s.token.src_line;
        column = column i;
        name = s.token.name_id;
        is_range = s.token.is_range;
      }

-- The law `moved_positions_answer_as_before`.

pub composition-sorted : (original adjustment new : List RawToken) → composition original adjustment ≡ Ok new
    → in_order (composed_all (stretches_by Adjustment adjustment) (stretches_by Original original)) ≡ new
composition-sorted original adjustment new =
    elim (list_any overflows_column
    (composed_all (stretches_by Adjustment adjustment) (stretches_by Original original)))
    as (λ b. ◌≡◌ {A = Result (List RawToken) Error} (cond b (Err IncompatibleSourceMap)
    (Ok (in_order (composed_all (stretches_by Adjustment adjustment) (stretches_by Original original))))) (Ok new)
    → in_order (composed_all (stretches_by Adjustment adjustment) (stretches_by Original original)) ≡ new) [
      | true ↦ λ e. cc
      | false ↦ λ e. cc
    ]

bare_column : (sources names : ℕ) (t : RawToken) → sources ≤ 4294967295 → IsWithin sources names t → t.src_id ≡ no_id
    → t.src_col ≡ no_id
bare_column sources names t few within none = (within (omega arith)).2

pub moved_origin : (sources names : ℕ) (ts adjustment : List RawToken) (a : Stretch) (q : ℕ × ℕ)
    → Rises (λ a b. is_before (destination a) (destination b)) ts → sources ≤ 4294967295 → AllWithin sources names ts
    → Contains (stretches_by Adjustment adjustment) a → LiesIn q a → ClosestIsOnLine ts q → HasDistinctDestinations ts
    → IsAloneUpTo (moved a q) a (stretches_by Adjustment adjustment) (stretches destination ts)
    → origin (in_order (composed_all (stretches_by Adjustment adjustment) (stretches destination ts))) (moved a q)
    ≡ origin ts q
moved_origin sources names ts adjustment a q r few within is inside on_line distinct alone =
    let sounds : AllByRecursion (IsSound source) (stretches_by Adjustment adjustment) =
    stretches-sound source (sorted_by source position_cmp adjustment) in
    let in_a = in_from_Contains a (stretches_by Adjustment adjustment) is in
    let sound = All-in (IsSound source) a (stretches_by Adjustment adjustment) sounds in_a in
    let line_a = on_the_line a.start a.end q sound.end inside.0 inside.1 in
    let t = on_line.0 in
    let nearest = closest-greatest q t ts r on_line.1 in
    let apart = apart_from_destinations ts distinct in
    let found = stretch_of q t on_line.2 (short_of_the_end a.start a.end q sound.end inside.1 line_a.0) nearest.reached
    ts r apart nearest.one nearest.others in
    let s = found.0 in
    let here =
    closest_here ts (stretches_by Adjustment adjustment) r apart sounds a s q in_a found.1 inside found.3 alone in
    let bare = All-in (λ u. u.src_id ≡ no_id → u.src_col ≡ no_id) t ts (All-weaker (IsWithin sources names)
    (λ u. u.src_id ≡ no_id → u.src_col ≡ no_id) (λ u h. bare_column sources names u few h) ts within) nearest.one in
    let same = same_origin ts (stretches_by Adjustment adjustment) r apart sounds a s q in_a found.1 inside found.3
    (subst (λ u. u.src_id ≡ no_id → u.src_col ≡ no_id) (sym found.2) bare) (ap (λ (u : RawToken). u.dst_line) found.2
    ∙ on_line.2) in
    rw (here, on_line.1) (ap Some (same ∙ ap (λ u. origin_by u q) found.2))

pub moved_as_before : (sources names : ℕ) (original adjustment new : List RawToken) (a : Stretch) (q : ℕ × ℕ)
    → AreInOrder original → sources ≤ 4294967295 → AllWithin sources names original
    → composition original adjustment ≡ Ok new
    → IsMovedAlone original adjustment a q → origin new (moved a q) ≡ origin original q
moved_as_before sources names original adjustment new a q up few within given alone =
    let same : in_order original ≡ original = in_order-ordered original up in
    let at_new = moved_origin sources names (in_order original) adjustment a q
    (Rises-sorted_by destination position_cmp_total original) few (AllWithin-in_order sources names original within)
    alone.stretch alone.inside (subst (λ ts. ClosestIsOnLine ts q) (sym same) alone.on_line)
    (subst HasDistinctDestinations (sym same) alone.apart) alone.alone in
    ap (λ tokens. origin tokens (moved a q)) (sym (composition-sorted original adjustment new given)) ∙ at_new
    ∙ ap (λ ts. origin ts q) same

-- Bounds.

uncut : (is_range : Bool) (id col columns : ℕ) → (id == 4294967295) ≡ true
    → (if is_range && not (id == 4294967295) then min (col + columns) 4294967295 else col) ≡ col
uncut false id col columns none = refl
uncut true id col columns none = rw none refl

part_within : (sources names : ℕ) (a o : Stretch) → IsWithin sources names o.token
    → IsWithin sources names (composed a o)
part_within sources names a o within out =
    let bare = within out in
    let none : (o.token.src_id == no_id) ≡ true = eq-eqb o.token.src_id no_id bare.0 in (
      bare.0,
      bare.1,
      uncut o.token.is_range o.token.src_id o.token.src_col ((later_start a o).1 - o.start.1) none ∙ bare.2,
      bare.3,
    )

tokens_of : (P : RawToken → Type 0) (ts : List RawToken) → AllByRecursion P ts
    → AllByRecursion (λ (s : Stretch). P s.token) (stretches destination ts)
tokens_of P [] all = tt
tokens_of P (t ∷ ts) all = (all.0, tokens_of P ts all.1)

pub composed_within : (sources names : ℕ) (original adjustment new : List RawToken) → AllWithin sources names original
    → composition original adjustment ≡ Ok new → AllWithin sources names new
composed_within sources names original adjustment new within given =
    let all = composed_all (stretches_by Adjustment adjustment) (stretches_by Original original) in
    let tokens =
    tokens_of (IsWithin sources names) (in_order original) (AllWithin-in_order sources names original within) in
    subst (AllWithin sources names) (composition-sorted original adjustment new given)
    (AllWithin-in_order sources names all
    (All-composed (IsWithin sources names) (stretches_by Adjustment adjustment) (stretches_by Original original)
    (λ b o in_b in_o meets. part_within sources names b o
    (All-in (λ (s : Stretch). IsWithin sources names s.token) o (stretches_by Original original) tokens in_o))))
