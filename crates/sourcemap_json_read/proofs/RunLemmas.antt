-- Runs of plain bytes. A mask marks the bytes of a vector that end a run. A search for the end of a run can test one
-- vector at a time with such a mask.
use Rattle.std.proofs.Common.{◌≡◌, ℕ, zero, suc, ◌+◌, ◌*◌, ◌/◌, ◌%◌, ◌^◌, ◌<◌, ◌≤◌, Bool, true, false, not, ◌||◌, cond}
use Rattle.std.proofs.Common.{eqb, ltb, List, [], ◌∷◌, ◌++◌, ◌-◌, map, replicate, length, take, drop, refl, sym, ap}
use Rattle.std.proofs.Common.{◌∙◌, arith, take-add}
use Rattle.std.proofs.lemmas.Simd.{chunk-drop, length-chunk, leading_from_mask_l, trailing_mask_l, zip2_splat}
use Rattle.std.proofs.lemmas.Simd.{zip2_splat_left, zip2_of_maps, map-map, mask_l-mod}
use Rattle.std.proofs.lemmas.List.{append_assoc, drop-drop, drop-map, length-drop, length-map, take-take}
use Rattle.std.proofs.lemmas.List.Folds.{prefix_len-append}
use Rattle.std.proofs.lemmas.List.Sums.{prefix_len-le-length}
use Rattle.std.proofs.lemmas.Bool.{eq-eqb, ne_eqb}
use Rattle.std.specs.List.{prefix_len}
use Rattle.sourcemap_json_read.specs.Runs.{is_stop, is_bare_stop}
use lib.Bits.{bit_or}
use lib.Lanes.{chunk, mask_l, top, zip2}
use lib.Count.{count_trailing_zeros}
use lib.Seq.{take-append-add}
use native.Mathlib.Nat.{pow-suc, mul_comm, zero-div, div-one, div-div-eq-div-mul}

-- ---- the mask

abbrev full_if : Bool → ℕ
full_if b = cond b 255 0

either_top : (a b c : Bool) → top 7 (bit_or (bit_or (full_if a) (full_if b)) (full_if c)) ≡ (a || b || c)
either_top true true true = refl
either_top true true false = refl
either_top true false true = refl
either_top true false false = refl
either_top false true true = refl
either_top false true false = refl
either_top false false true = refl
either_top false false false = refl

either_full : (a b : Bool) → bit_or (full_if a) (full_if b) ≡ full_if (a || b)
either_full true true = refl
either_full true false = refl
either_full false true = refl
either_full false false = refl

abbrev equals : ℕ → ℕ → ℕ
equals x y = full_if (eqb x y)

abbrev below : ℕ → ℕ → ℕ
below x y = full_if (ltb x y)

-- one lane for each byte: 255 for a quote, a backslash or a control byte, else 0
abbrev stop_lanes : ℕ → List ℕ → List ℕ
stop_lanes n v = zip2 bit_or (zip2 bit_or (zip2 equals v (replicate n 34))
    (zip2 equals v (replicate n 92))) (zip2 below v (replicate n 32))

stop_lanes_are : (n : ℕ) (v : List ℕ) → length v ≡ n
    → stop_lanes n v ≡ map (λ x. bit_or (bit_or (equals x 34) (equals x 92)) (below x 32)) v
stop_lanes_are n v long =
    zip2_of_maps bit_or (λ x. bit_or (equals x 34) (equals x 92)) (λ x. below x 32) v
    (zip2_of_maps bit_or (λ x. equals x 34) (λ x. equals x 92) v (zip2_splat equals v n 34 long)
    (zip2_splat equals v n 92 long)) (zip2_splat below v n 32 long)

pub mask_of_stops : (n : ℕ) (v : List ℕ) → length v ≡ n → n ≤ 64
    → mask_l (map (top 7) (stop_lanes n v)) % 2 ^ 64 ≡ mask_l (map is_stop v)
mask_of_stops n v long few =
    ap (λ lanes. mask_l (map (top 7) lanes) % 2 ^ 64) (stop_lanes_are n v long) ∙ ap (λ lanes.
    mask_l lanes % 2 ^ 64) (map-map (top 7) _ v ∙ (λ i. map (λ x. either_top (eqb x 34) (eqb x 92) (ltb x 32) i) v))
    ∙ mask_l-mod (map is_stop v) 64 (omega (arith, length-map v is_stop))

either_top_of_two : (a b c d : Bool)
    → top 7 (bit_or (bit_or (bit_or (full_if a) (full_if b)) (full_if c)) (full_if d)) ≡ (a || b || c || d)
either_top_of_two a b c d =
    ap (λ u. top 7 (bit_or (bit_or u (full_if c)) (full_if d))) (either_full a b) ∙ either_top (a || b) c d

pub mask_of_bare_stops : (n : ℕ) (v : List ℕ) → length v ≡ n → n ≤ 64 → mask_l (map (top 7)
    (zip2 bit_or (stop_lanes n v) (zip2 below (replicate n 127) v))) % 2 ^ 64 ≡ mask_l (map is_bare_stop v)
mask_of_bare_stops n v long few =
    ap (λ lanes. mask_l (map (top 7) lanes) % 2 ^ 64) (zip2_of_maps bit_or (λ x. bit_or (bit_or (equals x 34)
    (equals x 92)) (below x 32)) (λ x. below 127 x) v (stop_lanes_are n v long) (zip2_splat_left below 127 n v long))
    ∙ ap (λ lanes. mask_l lanes % 2 ^ 64)
    (map-map (top 7) _ v ∙ (λ i. map (λ x. either_top_of_two (eqb x 34) (eqb x 92) (ltb x 32) (ltb 127 x) i) v))
    ∙ mask_l-mod (map is_bare_stop v) 64 (omega (arith, length-map v is_bare_stop))

-- ---- the mask of a chunk without the first `k` bytes

half : (b : Bool) (n : ℕ) → (cond b 1 0 + 2 * n) / 2 ≡ n
half true n = omega arith
half false n = omega arith

mask_shifted : (ms : List Bool) (k : ℕ) → mask_l ms / 2 ^ k ≡ mask_l (drop k ms)
mask_shifted [] zero = refl
mask_shifted [] (suc k) = zero-div (2 ^ suc k)
mask_shifted (m ∷ ms) zero = div-one (mask_l (m ∷ ms))
mask_shifted (m ∷ ms) (suc k) =
    ap (λ n. mask_l (m ∷ ms) / n) (pow-suc 2 k ∙ mul_comm (2 ^ k) 2) ∙ sym (div-div-eq-div-mul (mask_l (m ∷ ms)) 2
    (2 ^ k)) ∙ ap (λ n. n / 2 ^ k) (half m (mask_l ms)) ∙ mask_shifted ms k

take-nil : (n : ℕ) → take {A = ℕ} n [] ≡ []
take-nil zero = refl
take-nil (suc n) = refl

drop_of_take : (k n : ℕ) (xs : List ℕ) → drop k (take n xs) ≡ take (n - k) (drop k xs)
drop_of_take zero n xs = let same : n ≡ n - 0 = omega arith in ap (λ m. take m xs) same
drop_of_take (suc k) zero xs = let none : 0 ≡ 0 - suc k = omega arith in ap (λ m. take m (drop (suc k) xs)) none
drop_of_take (suc k) (suc n) [] = sym (take-nil (suc n - suc k))
drop_of_take (suc k) (suc n) (x ∷ xs) = let same : suc n - suc k ≡ n - k = omega arith in
    drop_of_take k n xs ∙ ap (λ m. take m (drop k xs)) (sym same)

pub stops_after : (text : List ℕ) (at n k : ℕ)
    → mask_l (map is_stop (chunk at n text)) / 2 ^ k ≡ mask_l (map is_stop (chunk (at + k) (n - k) text))
stops_after text at n k =
    mask_shifted (map is_stop (chunk at n text)) k ∙ ap mask_l (drop-map is_stop k (chunk at n text))
    ∙ ap (λ xs. mask_l (map is_stop xs)) (drop_of_take k n (drop at text) ∙ ap (take (n - k)) (drop-drop k at text))

-- ---- where a run ends, by the mask

stops_within : (stop : Bool) (m n l : ℕ) → (0 < m → n < l) → 0 < cond stop 1 0 + 2 * m
    → cond (not stop) (1 + n) 0 < suc l
stops_within true m n l rest some = omega arith
stops_within false m n l rest some = let m_some : 0 < m = omega arith in omega (arith, rest m_some)

run_ends_within : (stop : ℕ → Bool) (xs : List ℕ) → 0 < mask_l (map stop xs)
    → prefix_len (λ x. not (stop x)) xs < length xs
run_ends_within stop [] some = absurd (omega arith)
run_ends_within stop (x ∷ xs) some = stops_within (stop x) (mask_l (map stop xs)) (prefix_len
    (λ x. not (stop x)) xs) (length xs) (run_ends_within stop xs) some

module _ (stop : ℕ → Bool) (text : List ℕ) (at n : ℕ) (inside : at + n ≤ length text) where
  split : prefix_len (λ x. not (stop x)) (drop at text)
      ≡ cond (eqb (prefix_len (λ x. not (stop x)) (chunk at n text)) (length (chunk at n text)))
      (length (chunk at n text) + prefix_len (λ x. not (stop x)) (drop (at + n) text))
      (prefix_len (λ x. not (stop x)) (chunk at n text))
  split = ap (prefix_len (λ x. not (stop x))) (chunk-drop at n text)
      ∙ prefix_len-append (λ x. not (stop x)) (chunk at n text) (drop (at + n) text)

  -- if the mask of the chunk is 0, the run from `at` on is the whole chunk, followed by the run from `at + n` on
  pub run_goes_on : mask_l (map stop (chunk at n text)) ≡ 0
      → prefix_len (λ x. not (stop x)) (drop at text) ≡ n + prefix_len (λ x. not (stop x)) (drop (at + n) text)
  run_goes_on none =
      let part = chunk at n text in
      let rest = prefix_len (λ x. not (stop x)) (drop (at + n) text) in
      split ∙ ap (λ whole. cond whole (length part + rest) (prefix_len (λ x. not (stop x)) part)) (eq-eqb _ _
      (leading_from_mask_l stop part none)) ∙ ap (λ k. k + rest) (length-chunk at n text inside)

  -- the lowest set bit of the mask is where the run ends
  pub run_stops : n ≤ 64 → 0 < mask_l (map stop (chunk at n text))
      → prefix_len (λ x. not (stop x)) (drop at text) ≡ count_trailing_zeros 64 (mask_l (map stop (chunk at n text)))
  run_stops few some =
      let part = chunk at n text in
      let rest = prefix_len (λ x. not (stop x)) (drop (at + n) text) in
      let within = run_ends_within stop part some in
      split ∙ ap (λ whole. cond whole (length part + rest) (prefix_len (λ x. not (stop x)) part)) (ne_eqb _ _
      (λ (e : prefix_len (λ x. not (stop x)) part ≡ length part). omega arith))
      ∙ sym (trailing_mask_l stop 64 part (omega (arith, length-chunk at n text inside)) some)

  pub stop_inside : n ≤ 64 → 0 < mask_l (map stop (chunk at n text))
      → count_trailing_zeros 64 (mask_l (map stop (chunk at n text))) < n
  stop_inside few some =
      let part = chunk at n text in
      let long = length-chunk at n text inside in
      omega (arith, long, run_ends_within stop part some, trailing_mask_l stop 64 part (omega (arith, long)) some)

pub run_within : (stop : ℕ → Bool) (text : List ℕ) (at : ℕ) → at ≤ length text
    → at + prefix_len (λ x. not (stop x)) (drop at text) ≤ length text
run_within stop text at h = omega (arith, prefix_len-le-length (λ x. not (stop x)) (drop at text), length-drop at text)

-- ---- a run that is copied

-- appending the next bytes extends the copied run
pub copied_more : (out before text : List ℕ) (from at n : ℕ) → from ≤ at
    → out ≡ before ++ take (at - from) (drop from text)
    → out ++ take n (drop at text) ≡ before ++ take (at + n - from) (drop from text)
copied_more out before text from at n after is =
    let rest = drop from text in
    let there : drop at text ≡ drop (at - from) rest =
    ap (λ k. drop k text) (omega arith) ∙ sym (drop-drop (at - from) from text) in
    let count : (at - from) + n ≡ at + n - from = omega arith in
    ap (λ xs. xs ++ take n (drop at text)) is ∙ append_assoc before (take (at - from) rest) (take n (drop at text))
    ∙ ap (λ xs. before ++ (take (at - from) rest ++ take n xs)) there
    ∙ ap (λ xs. before ++ xs) (sym (take-add (at - from) n rest)) ∙ ap (λ k. before ++ take k rest) count

-- let `all` be `out` followed by the first `most` bytes of `block`, and let `n ≤ most`. Truncating `all` to `length out
-- + n` bytes leaves `out` followed by the first `n` bytes of `block`
pub cut_back : (out block all : List ℕ) (n most : ℕ) → n ≤ most → all ≡ out ++ take most block
    → take (length out + n) all ≡ out ++ take n block
cut_back out block all n most few is =
    ap (take (length out + n)) is ∙ take-append-add out (take most block) n
    ∙ ap (λ xs. out ++ xs) (take-take n most block few)
