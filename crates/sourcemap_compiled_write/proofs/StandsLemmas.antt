-- Lists that stand in another list at an offset, and what is read there.
use Rattle.std.proofs.Common.{◌≡◌, refl, sym, ap, subst, ◌∙◌, ℕ, zero, suc, ◌+◌, ◌-◌, ◌*◌, ◌^◌, ◌<◌, ◌≤◌}
use Rattle.std.proofs.Common.{List, [], ◌∷◌, ◌++◌, length, slice_index, slice_range, get_or, take, drop, arith}
use Rattle.std.proofs.Common.{append_assoc, length-append, inl, inr}
use Rattle.std.specs.List.{flat_map}
use Rattle.std.proofs.lemmas.Bool.{cases_lt}
use Rattle.std.proofs.lemmas.List.{append-nil, drop_at, get_or_at, length-take-le, take_at}
use Rattle.std.proofs.Math.Nat.{div-one, mod-eq_of_lt, mul-le-mul_right, mul-suc, mul-zero}
use Rattle.byteorder.specs.Endian.{little_bytes}
use Rattle.byteorder.specs.Numbers.{length-bytes_low_first, little_from-bytes}
use Rattle.sourcemap_compiled.specs.Numbers.{bits_at, u32_at, u64_at}
use Rattle.sourcemap_compiled_write.specs.Packing.{field_bytes, packed}
use Rattle.sourcemap_compiled_write.specs.Pieces.{pieces}
use Rattle.sourcemap_compiled_write.proofs.BytesLemmas.{bits_at-bytes}
use Rattle.sourcemap_compiled_write.proofs.PackingLemmas.{packed-at}

-- the part stands in the whole list at this offset
pub record Stands (whole : List ℕ) (offset : ℕ) (part : List ℕ) : Type 0 where
  pub before : List ℕ
  pub after : List ℕ
  pub is : whole ≡ before ++ (part ++ after)
  pub place : length before ≡ offset

pub Stands-whole : (xs : List ℕ) → Stands xs 0 xs
Stands-whole xs = record { before = []; after = []; is = sym (append-nil xs); place = refl }

pub Stands-same : (whole : List ℕ) (o o' : ℕ) (xs ys : List ℕ) → o ≡ o' → xs ≡ ys → Stands whole o xs
    → Stands whole o' ys
Stands-same whole o o' xs ys e f s =
    subst (λ (zs : List ℕ). Stands whole o' zs) f (subst (λ (n : ℕ). Stands whole n xs) e s)

pub Stands-first : (whole : List ℕ) (o : ℕ) (xs ys : List ℕ) → Stands whole o (xs ++ ys) → Stands whole o xs
Stands-first whole o xs ys s = record {
  before = s.before;
  after = ys ++ s.after;
  is = s.is ∙ ap (λ (zs : List ℕ). s.before ++ zs) (append_assoc xs ys s.after);
  place = s.place;
}

pub Stands-rest : (whole : List ℕ) (o o' : ℕ) (xs ys : List ℕ) → o + length xs ≡ o' → Stands whole o (xs ++ ys)
    → Stands whole o' ys
Stands-rest whole o o' xs ys e s = record {
  before = s.before ++ xs;
  after = s.after;
  is = s.is ∙ ap (λ (zs : List ℕ). s.before ++ zs) (append_assoc xs ys s.after)
      ∙ sym (append_assoc s.before xs (ys ++ s.after));
  place = length-append s.before xs ∙ omega (arith, s.place);
}

-- ---- lists joined end to end

pub pieces-none : (f : ℕ → List ℕ) → pieces f 0 ≡ []
unfolding pieces
pieces-none f = refl

pub pieces-suc : (f : ℕ → List ℕ) (n : ℕ) → pieces f (suc n) ≡ pieces f n ++ f n
unfolding pieces
pieces-suc f n = refl

pub pieces-more : (f : ℕ → List ℕ) (n : ℕ) → pieces f (n + 1) ≡ pieces f n ++ f n
pieces-more f n = let same : n + 1 ≡ suc n = omega arith in ap (pieces f) same ∙ pieces-suc f n

-- one piece more
pub pieces_step : (bs : List ℕ) (f : ℕ → List ℕ) (n : ℕ) (x y now : List ℕ) → now ≡ x ++ y → x ≡ bs ++ pieces f n
    → y ≡ f n → now ≡ bs ++ pieces f (n + 1)
pieces_step bs f n x y now a b c =
    a ∙ ap (λ (l : List ℕ). l ++ y) b ∙ append_assoc bs (pieces f n) y
    ∙ ap (λ (l : List ℕ). bs ++ (pieces f n ++ l)) c ∙ ap (λ (l : List ℕ). bs ++ l) (sym (pieces-more f n))

pub pieces_start : (bs : List ℕ) (f : ℕ → List ℕ) → bs ≡ bs ++ pieces f 0
pieces_start bs f = sym (ap (λ (l : List ℕ). bs ++ l) (pieces-none f) ∙ append-nil bs)

pub length-pieces : (f : ℕ → List ℕ) (size : ℕ) → ((k : ℕ) → length (f k) ≡ size) → (n : ℕ)
    → length (pieces f n) ≡ size * n
length-pieces f size each zero = ap length (pieces-none f) ∙ sym (mul-zero size)
length-pieces f size each (suc n) =
    ap length (pieces-suc f n) ∙ length-append (pieces f n) (f n)
    ∙ omega (arith, length-pieces f size each n, each n, mul-suc size n)

pub length-pieces-le : (f : ℕ → List ℕ) (k n : ℕ) → k ≤ n → length (pieces f k) ≤ length (pieces f n)
length-pieces-le f k zero l = let same : k ≡ 0 = omega arith in rw same (omega arith)
length-pieces-le f k (suc n) l = elim (cases_lt k (suc n)) [
  | inl less ↦
      let before = length-pieces-le f k n (omega arith) in
      let more = ap length (pieces-suc f n) ∙ length-append (pieces f n) (f n) in
      omega arith
  | inr not ↦ let same : k ≡ suc n = omega arith in rw same (omega arith)
]

pub Stands-piece : (f : ℕ → List ℕ) (whole : List ℕ) (o k n : ℕ) → k < n → Stands whole o (pieces f n)
    → Stands whole (o + length (pieces f k)) (f k)
Stands-piece f whole o k zero l s = absurd (omega arith)
Stands-piece f whole o k (suc n) l s =
    let both : Stands whole o (pieces f n ++ f n) = subst (λ (xs : List ℕ). Stands whole o xs) (pieces-suc f n) s in
    elim (cases_lt k n) [
      | inl less ↦ Stands-piece f whole o k n less (Stands-first whole o (pieces f n) (f n) both)
      | inr not ↦
          let same : n ≡ k = omega arith in
          subst (λ (m : ℕ). Stands whole (o + length (pieces f m)) (f m)) same
          (Stands-rest whole o (o + length (pieces f n)) (pieces f n) (f n) refl both)
    ]

pub Stands-item : {X : Type 0} (f : X → List ℕ) (whole : List ℕ) (o : ℕ) (xs : List X) (k : ℕ) (d : X)
    → k < length xs → Stands whole o (flat_map f xs)
    → Stands whole (o + length (flat_map f (take k xs))) (f (get_or xs k d))
Stands-item f whole o [] k d l s = absurd (omega arith)
Stands-item f whole o (x ∷ xs) zero d l s =
    Stands-same whole o (o + 0) (f x) (f x) (omega arith) refl (Stands-first whole o (f x) (flat_map f xs) s)
Stands-item f whole o (x ∷ xs) (suc k) d l s =
    let there : o + length (f x) + length (flat_map f (take k xs)) ≡ o + length (f x ++ flat_map f (take k xs)) =
    omega (arith, length-append (f x) (flat_map f (take k xs))) in
    Stands-same whole _ _ (f (get_or xs k d)) (f (get_or xs k d)) there refl
    (Stands-item f whole (o + length (f x)) xs k d (omega arith)
    (Stands-rest whole o (o + length (f x)) (f x) (flat_map f xs) refl s))

pub length-flat_map-each : {X : Type 0} (f : X → List ℕ) (size : ℕ) → ((x : X) → length (f x) ≡ size)
    → (xs : List X) → length (flat_map f xs) ≡ size * length xs
length-flat_map-each f size each [] = sym (mul-zero size)
length-flat_map-each f size each (x ∷ xs) =
    length-append (f x) (flat_map f xs)
    ∙ omega (arith, length-flat_map-each f size each xs, each x, mul-suc size (length xs))

-- ---- what is read

pub length-field_bytes : (w : ℕ) (xs : List ℕ) → length (field_bytes w xs) ≡ 8 * w
length-field_bytes w xs = length-bytes_low_first 0 (8 * w) (packed w xs)

-- a number of a field
bits_at-field : (pre post : List ℕ) (w : ℕ) (xs : List ℕ) (place : ℕ) → place < 64 → w ≤ 57
    → ((k : ℕ) → slice_index xs k < 2 ^ w)
    → bits_at (pre ++ (field_bytes w xs ++ post)) (length pre) (place * w) w ≡ slice_index xs place
bits_at-field pre post w xs place inside few small =
    let times : place * w ≤ 63 * w = mul-le-mul_right w (omega arith) in
    let room : place * w + w ≤ 8 * (8 * w) = omega arith in
    bits_at-bytes pre post (8 * w) (packed w xs) (place * w) w room few ∙ packed-at w xs place small

module _ (whole : List ℕ) (o : ℕ) where
  from_there : (xs : List ℕ) (s : Stands whole o xs) → drop o whole ≡ xs ++ s.after
  from_there xs s = ap (drop o) s.is ∙ drop_at s.before (xs ++ s.after) o s.place

  pub u32_at-there : (x : ℕ) → x < 2 ^ 32 → Stands whole o (little_bytes 4 x) → u32_at whole o ≡ x
  unfolding u32_at
  u32_at-there x l s =
      rw (from_there (little_bytes 4 x) s, little_from-bytes 4 0 x s.after, div-one x) (mod-eq_of_lt l)

  pub u64_at-there : (x : ℕ) → x < 2 ^ 64 → Stands whole o (little_bytes 8 x) → u64_at whole o ≡ x
  unfolding u64_at
  u64_at-there x l s =
      rw (from_there (little_bytes 8 x) s, little_from-bytes 8 0 x s.after, div-one x) (mod-eq_of_lt l)

  pub byte_at-there : (x : ℕ) → Stands whole o (x ∷ []) → slice_index whole o ≡ x
  byte_at-there x s = ap (λ (xs : List ℕ). slice_index xs o) s.is ∙ get_or_at s.before x s.after 0 o s.place

  pub range-there : (end : ℕ) (xs : List ℕ) → o + length xs ≡ end → Stands whole o xs
      → slice_range whole o end ≡ xs
  range-there end xs e s =
      let many : end - o ≡ length xs = omega arith in
      ap (λ (n : ℕ). take n (drop o whole)) many ∙ ap (take (length xs)) (from_there xs s)
      ∙ take_at xs s.after (length xs) refl

  pub bits_at-there : (w : ℕ) (xs : List ℕ) (place : ℕ) → place < 64 → w ≤ 57
      → ((k : ℕ) → slice_index xs k < 2 ^ w) → Stands whole o (field_bytes w xs)
      → bits_at whole o (place * w) w ≡ slice_index xs place
  bits_at-there w xs place l few small s =
      ap (λ (ys : List ℕ). bits_at ys o (place * w) w) s.is
      ∙ ap (λ (n : ℕ). bits_at (s.before ++ (field_bytes w xs ++ s.after)) n (place * w) w) (sym s.place)
      ∙ bits_at-field s.before s.after w xs place l few small

-- a number of a list of numbers of four bytes
pub number-there : (whole : List ℕ) (o : ℕ) (xs : List ℕ) (k : ℕ) → k < length xs → slice_index xs k < 2 ^ 32
    → Stands whole o (flat_map (little_bytes 4) xs) → u32_at whole (o + 4 * k) ≡ slice_index xs k
number-there whole o xs k l small s =
    let few : length (take k xs) ≡ k = length-take-le k xs (omega arith) in
    let there : o + length (flat_map (little_bytes 4) (take k xs)) ≡ o + 4 * k =
    omega (arith, length-flat_map-each (little_bytes 4) 4 (λ x. length-bytes_low_first 0 4 x) (take k xs), few) in
    u32_at-there whole (o + 4 * k) (slice_index xs k) small
    (Stands-same whole _ (o + 4 * k) (little_bytes 4 (slice_index xs k)) (little_bytes 4 (slice_index xs k)) there refl
    (Stands-item (little_bytes 4) whole o xs k 0 l s))
