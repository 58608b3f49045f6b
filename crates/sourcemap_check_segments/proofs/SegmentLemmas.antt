-- Lemmas on the parts of a text, the numbers of a segment, and sums.
use Rattle.std.proofs.Common.{◌≡◌, ◌≢◌, ℕ, ◌%◌, ◌<◌, ◌≤◌, ◌==◌, Bool, true, false, not, min, List, [], ◌∷◌, ◌++◌}
use Rattle.std.proofs.Common.{length, get_or, zero, suc, slice_index, sym, ◌∙◌, ap, refl, subst, append_assoc, arith}
use Rattle.std.proofs.Common.{All, ℤ, pos, ◌+ℤ◌}
use Rattle.std.proofs.Common.{Some, None, inl, inr, lit<, of_z, to_z}
use mir.Syntax.{w64, w128}
use mir.Val.{SFits}
use Rattle.std.specs.Prelude.{nat_le, if◌then◌else◌, ◌||◌, ◌&&◌}
use Rattle.std.specs.List.{slice_split, list_any}
use Rattle.std.proofs.lemmas.Bool.{eq-eqb, le-leb, lt-leb, cases_Bool, and_parts, not-true, leb-false, or_parts}
use Rattle.std.proofs.lemmas.Bool.Decides.{nat_tests}
use Rattle.std.proofs.lemmas.Int.{ints, to_z-of_z}
use Rattle.std.proofs.lemmas.List.Elements.{All-from_get_or}
use Rattle.std.proofs.lemmas.List.Splits.{slice_split_none, slice_split_at}
use Rattle.sourcemap_vlq.specs.Vlq.{digit_value}
use Rattle.sourcemap_check_segments.specs.Segments.{is_foreign, continues, before_raws, raws_of, value_of, is_large}
use Rattle.sourcemap_check_segments.specs.Segments.{is_cut}
use Rattle.sourcemap_check_segments.specs.Segments.{is_count, is_sound, is_whole, has_large, has_foreign, delta, sum_at}
use Rattle.sourcemap_check_segments.specs.Steps.{small_raw, later_raws, IsWithin}

-- The parts of a text.

lacks : (c : ℕ) (xs : List ℕ) → ((i : ℕ) → i < length xs → get_or xs i 0 ≢ c) → All (λ b. (b == c) ≡ false) xs
lacks c xs h = All-from_get_or (λ b. (b == c) ≡ false) xs 0 (λ i lt. let ne = h i lt in grind (arith, nat_tests))

pub split_last : (c : ℕ) (text : List ℕ) → ((i : ℕ) → i < length text → get_or text i 0 ≢ c)
    → slice_split (λ b. b == c) text ≡ text ∷ []
split_last c text h = slice_split_none (λ b. b == c) text (lacks c text h)

pub split_first : (c : ℕ) (text part rest : List ℕ) → text ≡ part ++ c ∷ rest
    → ((i : ℕ) → i < length part → get_or part i 0 ≢ c)
    → slice_split (λ b. b == c) text ≡ part ∷ slice_split (λ b. b == c) rest
split_first c text part rest e h =
    ap (slice_split (λ b. b == c)) e
    ∙ slice_split_at (λ b. b == c) part c rest (lacks c part h) (eq-eqb c c refl)

-- The numbers of a segment.

pub is_cut-last : (xs : List ℕ) (x : ℕ) → is_cut (xs ++ x ∷ []) ≡ continues x
is_cut-last [] x = refl
is_cut-last (y ∷ []) x = refl
is_cut-last (y ∷ z ∷ zs) x = is_cut-last (z ∷ zs) x

pub not_foreign : (c v : ℕ) (b : Bool) → digit_value c ≡ Some v → (is_foreign c || b) ≡ b
not_foreign c v b e = rw e refl

pub raws_of-more : (c v : ℕ) (cs : List ℕ) → digit_value c ≡ Some v → 32 ≤ v
    → raws_of (c ∷ cs) ≡ before_raws (v % 32) (raws_of cs)
raws_of-more c v cs e h = rw (e, le-leb 32 v h) refl

pub raws_of-next : (c v : ℕ) (cs : List ℕ) → digit_value c ≡ Some v → v < 32 → raws_of (c ∷ cs) ≡ v ∷ raws_of cs
raws_of-next c v cs e h =
    let small : v % 32 ≡ v = omega arith in rw (e, lt-leb 32 v h) (ap (λ n. n ∷ raws_of cs) small)

pub raws_of-foreign : (c : ℕ) (cs : List ℕ) → digit_value c ≡ None → raws_of (c ∷ cs) ≡ 0 ∷ raws_of cs
raws_of-foreign c cs e = rw e refl

large_first : (r : ℕ) (later : Bool) → (nat_le 4294967296 r || later) ≡ (later || nat_le 4294967296 (min r 4294967296))
large_first r later = grind (arith, nat_tests)

pub large_is : (raws : List ℕ)
    → list_any is_large raws ≡ (list_any is_large (later_raws raws) || nat_le 4294967296 (small_raw raws 0))
large_is [] = refl
large_is (r ∷ rs) = large_first r (list_any is_large rs)

pub is_count-min : (n : ℕ) → is_count (min n 6) ≡ is_count n
is_count-min n = grind (arith, nat_tests)

not_large : (raws : List ℕ) (k : ℕ) → list_any is_large raws ≡ false → slice_index raws k < 4294967296
not_large [] k h = lit< tt
not_large (r ∷ rs) zero h = leb-false 4294967296 r (or_parts _ _ h).0
not_large (r ∷ rs) (suc k) h = not_large rs k (or_parts _ _ h).1

delta_is : (bytes : List ℕ) (k raw : ℕ) → raw ≡ small_raw (raws_of bytes) k
    → (if is_sound bytes then value_of raw else pos 0) ≡ delta k bytes
delta_is bytes k raw e = elim (cases_Bool (is_sound bytes)) [
  | inl sound ↦
      let parts : ((is_whole bytes && is_count (length (raws_of bytes))) ≡ true) × (not (has_large bytes) ≡ true) =
      and_parts (is_whole bytes && is_count (length (raws_of bytes))) (not (has_large bytes)) sound in
      let fit : list_any is_large (raws_of bytes) ≡ false = not-true (has_large bytes) parts.1 in
      let small : slice_index (raws_of bytes) k < 4294967296 = not_large (raws_of bytes) k fit in
      let same : raw ≡ slice_index (raws_of bytes) k = omega arith in
      rw same refl
  | inr not_sound ↦ rw not_sound refl
]

pub sound_is : (bytes : List ℕ) (foreign cut have large : Bool) → foreign ≡ has_foreign bytes → cut ≡ is_cut bytes
    → have ≡ is_count (length (raws_of bytes)) → large ≡ has_large bytes
    → (((not foreign && not cut) && have) && not large) ≡ is_sound bytes
sound_is bytes foreign cut have large e f g h = rw (e, f, g, h) refl

pub field_is : (bytes : List ℕ) (k raw : ℕ) (sound : Bool) (value : ℤ) → raw ≡ small_raw (raws_of bytes) k
    → sound ≡ is_sound bytes → (raw ≤ 4294967296 → value ≡ (if sound then value_of raw else pos 0))
    → SFits w64 value → to_z w64 (of_z w64 value) ≡ delta k bytes
field_is bytes k raw sound value e same is fits =
    let small : raw ≤ 4294967296 = omega arith in
    to_z-of_z w64 value fits
    ∙ (is small ∙ (ap (λ b. if b then value_of raw else pos 0) same ∙ delta_is bytes k raw e))

-- Sums.

added_zero : (z : ℤ) → z +ℤ pos 0 ≡ pos 0 +ℤ z
added_zero z = omega (arith, ints)

regrouped : (a b c : ℤ) → a +ℤ (b +ℤ c) ≡ (a +ℤ b) +ℤ c
regrouped a b c = omega (arith, ints)

sum_at-more : (k : ℕ) (segments : List (List ℕ)) (bytes : List ℕ)
    → sum_at k (segments ++ bytes ∷ []) ≡ sum_at k segments +ℤ delta k bytes
sum_at-more k [] bytes = added_zero (delta k bytes)
sum_at-more k (s ∷ segments) bytes =
    ap (λ z. delta k s +ℤ z) (sum_at-more k segments bytes) ∙ regrouped (delta k s) (sum_at k segments) (delta k bytes)

sum_step : (k : ℕ) (segments : List (List ℕ)) (bytes : List ℕ) (a b : ℤ) → a ≡ sum_at k segments
    → b ≡ delta k bytes → a +ℤ b ≡ sum_at k (segments ++ bytes ∷ [])
sum_step k segments bytes a b e f =
    rw (e, f) (sym (sum_at-more k segments bytes))

sum_step_through : (k : ℕ) (before here : List (List ℕ)) (bytes : List ℕ) (a b : ℤ)
    → a ≡ sum_at k (before ++ here) → b ≡ delta k bytes → a +ℤ b ≡ sum_at k (before ++ (here ++ bytes ∷ []))
sum_step_through k before here bytes a b e f =
    sum_step k (before ++ here) bytes a b e f ∙ ap (sum_at k) (append_assoc before here (bytes ∷ []))

unwrapped : (old number : ℤ) → SFits w128 old → SFits w64 number
    → to_z w128 (of_z w128 old) +ℤ to_z w64 (of_z w64 number) ≡ old +ℤ number
unwrapped old number f g = rw (to_z-of_z w128 old f, to_z-of_z w64 number g) refl

pub column_sum : (segments : List (List ℕ)) (bytes : List ℕ) (old number result : ℤ) → SFits w128 old → SFits w64 number
    → SFits w128 result → result ≡ to_z w128 (of_z w128 old) +ℤ to_z w64 (of_z w64 number)
    → old ≡ sum_at 0 segments → number ≡ delta 0 bytes
    → to_z w128 (of_z w128 result) ≡ sum_at 0 (segments ++ bytes ∷ [])
column_sum segments bytes old number result f g h is e d =
    to_z-of_z w128 result h ∙ (is ∙ (unwrapped old number f g ∙ sum_step 0 segments bytes old number e d))

pub next_sum : (segments : List (List ℕ)) (bytes : List ℕ) (old number result : ℤ) → SFits w64 number → SFits w128 result
    → result ≡ old +ℤ to_z w64 (of_z w64 number) → old ≡ sum_at 0 segments → number ≡ delta 0 bytes
    → to_z w128 (of_z w128 result) ≡ sum_at 0 (segments ++ bytes ∷ [])
next_sum segments bytes old number result g h is e d =
    to_z-of_z w128 result h
    ∙ (is ∙ (ap (λ z. old +ℤ z) (to_z-of_z w64 number g) ∙ sum_step 0 segments bytes old number e d))

pub through_sum : (k : ℕ) (before here : List (List ℕ)) (bytes : List ℕ) (old number result : ℤ) → SFits w128 old
    → SFits w64 number → SFits w128 result → result ≡ to_z w128 (of_z w128 old) +ℤ to_z w64 (of_z w64 number)
    → old ≡ sum_at k (before ++ here) → number ≡ delta k bytes
    → to_z w128 (of_z w128 result) ≡ sum_at k (before ++ (here ++ bytes ∷ []))
through_sum k before here bytes old number result f g h is e d =
    to_z-of_z w128 result h ∙ (is ∙ (unwrapped old number f g ∙ sum_step_through k before here bytes old number e d))

pub within_same : (n : ℕ) (z : ℤ) → SFits w128 z → IsWithin n z → IsWithin n (to_z w128 (of_z w128 z))
within_same n z f h = subst (IsWithin n) (sym (to_z-of_z w128 z f)) h
