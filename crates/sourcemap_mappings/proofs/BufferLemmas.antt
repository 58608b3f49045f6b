-- How the digits of the difference of two numbers are appended to the text in the buffer. All these digits are ASCII.
use Rattle.std.proofs.Common.{◌≡◌, ℕ, ◌+◌, ◌-◌, ◌*◌, ◌^◌, ◌<◌, ◌≤◌, ◌==◌, Bool, true, false, nat_lt, Some, List, []}
use Rattle.std.proofs.Common.{◌∷◌, ◌++◌, length, slice_index, refl, sym, subst, ◌∙◌, arith, inl, inr, ℤ, pos, negsuc}
use Rattle.std.proofs.Common.{unsigned_abs, ◌/◌, ◌%◌, take, set, ap}
use Rattle.std.specs.List.{AllByRecursion}
use Rattle.std.specs.Str.{IsAscii}
use Rattle.std.proofs.Math.Pow.{pow_mono}
use Rattle.std.proofs.lemmas.Bool.{agree_below_at, eqb-true, cases_lt, lt-ltb, le-ltb}
use Rattle.std.proofs.lemmas.Grind.{take-set_at}
use Rattle.std.proofs.lemmas.Int.{ints}
use Rattle.std.proofs.lemmas.List.{append_assoc, length-set, take-set-le}
use Rattle.std.proofs.lemmas.List.Elements.{All-from_recursion}
use Rattle.std.proofs.lemmas.Str.{IsAscii-append}
use Rattle.std.proofs.lemmas.Str.Ascii.{IsAscii-nil, IsAscii-from_all}
use Rattle.sourcemap_mappings.specs.declared.buffer.TheConstants.{ONE_DIGIT}
use Rattle.sourcemap_vlq.specs.Vlq.{digit_value, glyph, raw_of, HasContinuation, IsChain, Spells}
use Rattle.sourcemap_mappings.specs.Write.{difference}
use Rattle.sourcemap_mappings.specs.Buffer.{Adds, raw_difference}
use Rattle.sourcemap_vlq.proofs.DigitLemmas.{digit_value-below, glyph-digit_value, glyph-ascii}
use Rattle.sourcemap_vlq.proofs.VlqLemmas.{HasContinuation-glyph, IsShortest-last, raw_of-split, total_of, weighs}
use Rattle.sourcemap_mappings.proofs.WriteLemmas.{Spells-one}

-- Differences.

raw_below : (a b : ℕ) → a < b → raw_difference a b ≡ 2 * (b - a) + 1
raw_below a b h = let yes : nat_lt a b ≡ true = lt-ltb a b h in rw yes refl

raw_above : (a b : ℕ) → b ≤ a → raw_difference a b ≡ 2 * (a - b)
raw_above a b h = let no : nat_lt a b ≡ false = le-ltb a b h in rw no refl

pub difference_total : (a b : ℕ) → total_of (difference a b) ≡ raw_difference a b
unfolding total_of
difference_total a b = elim (cases_lt a b) [
  | inl below ↦
      let is : difference a b ≡ negsuc (b - a - 1) = omega (arith, ints) in
      rw is (omega (arith, raw_below a b below))
  | inr above ↦
      let is : difference a b ≡ pos (a - b) = omega (arith, ints) in
      rw is (omega (arith, raw_above a b above))
]

difference_near : (a b : ℕ) → a < 2 ^ 32 → b < 2 ^ 32 → unsigned_abs (difference a b) < 2 ^ 62
difference_near a b ha hb = elim (cases_lt a b) [
  | inl below ↦
      let is : difference a b ≡ negsuc (b - a - 1) = omega (arith, ints) in
      rw is (omega arith)
  | inr above ↦
      let is : difference a b ≡ pos (a - b) = omega (arith, ints) in
      rw is (omega arith)
]

-- let `a` and `b` be below 2^32, and let all digits of `part` have the continuation bit. Let the raw value of the
-- difference of `a` and `b` be the raw value of `part` plus `left` times the weight of the digit after `part`. Let
-- `left` be below 32. If `part` has a digit, let `left` also be above 0. Then `part` followed by the digit of `left` is
-- the shortest digit sequence of this difference
pub Adds-last : (a b : ℕ) (old part : List ℕ) (left : ℕ) → a < 2 ^ 32 → b < 2 ^ 32
    → AllByRecursion HasContinuation part → left < 32
    → raw_difference a b ≡ raw_of part + 2 ^ (5 * length part) * left → (0 < length part → 0 < left)
    → Adds (difference a b ∷ []) old (old ++ (part ++ glyph left ∷ []))
Adds-last a b old part left ha hb all low e some = record {
  digits = part ++ glyph left ∷ [];
  spelled = Spells-one (difference a b) (part ++ glyph left ∷ [])
      (IsShortest-last part (difference a b) left all low (difference_near a b ha hb) (difference_total a b ∙ e) some);
  added = refl;
}

-- let `a` and `b` be below 2^32. If `raw_difference a b` is from 32 to 1023, the difference of `a` and `b` has two
-- digits. If `raw_difference a b` is from 1024 to 32767, the difference has three digits
pub Adds-two : (a b : ℕ) (old : List ℕ) → a < 2 ^ 32 → b < 2 ^ 32 → 32 ≤ raw_difference a b → raw_difference a b < 1024
    → Adds (difference a b ∷ []) old
    (old ++ (glyph (raw_difference a b % 32 + 32) ∷ glyph (raw_difference a b / 32) ∷ []))
Adds-two a b old ha hb more low =
    let raw = raw_difference a b in
    Adds-last a b old (glyph (raw % 32 + 32) ∷ []) (raw / 32) ha hb (
      HasContinuation-glyph (raw % 32) (omega arith),
      tt,
    ) (omega arith)
    (raw_of-split [] raw raw (omega arith)) (λ _. omega arith)

pub Adds-three : (a b : ℕ) (old : List ℕ) → a < 2 ^ 32 → b < 2 ^ 32 → 1024 ≤ raw_difference a b
    → raw_difference a b < 32768
    → Adds (difference a b ∷ []) old
    (old ++ (glyph (raw_difference a b % 32 + 32) ∷ glyph (raw_difference a b / 32 % 32 + 32)
    ∷ glyph (raw_difference a b / 32 / 32) ∷ []))
Adds-three a b old ha hb more low =
    let raw = raw_difference a b in
    let first : ℕ = glyph (raw % 32 + 32) in
    let second : ℕ = glyph (raw / 32 % 32 + 32) in
    Adds-last a b old (first ∷ second ∷ []) (raw / 32 / 32) ha hb (
      HasContinuation-glyph (raw % 32) (omega arith),
      (HasContinuation-glyph (raw / 32 % 32) (omega arith), tt),
    ) (omega arith)
    (raw_of-split (first ∷ []) raw (raw / 32) (raw_of-split [] raw raw (omega arith))) (λ _. omega arith)

-- let the indices `at` and `at + 1` be below the length of `buffer`, and let `x` and `y` be stored at them. The first
-- `at` bytes stay the same. The first `at + 1` bytes end with `x`, and the first `at + 2` bytes end with `x` and `y`
pub pair-one : (buffer : List ℕ) (at x y n : ℕ) → n ≡ at + 1 → at + 1 < length buffer
    → take n (set (set buffer at x) (at + 1) y) ≡ take at buffer ++ x ∷ []
pair-one buffer at x y n e h =
    take-set-le n (set buffer at x) (at + 1) y (omega arith) ∙ take-set_at buffer at n x e (omega arith)

pub pair-two : (buffer : List ℕ) (at x y n : ℕ) → n ≡ at + 2 → at + 1 < length buffer
    → take n (set (set buffer at x) (at + 1) y) ≡ take at buffer ++ (x ∷ y ∷ [])
pair-two buffer at x y n e h =
    let long : length (set buffer at x) ≡ length buffer = length-set buffer at x in
    take-set_at (set buffer at x) (at + 1) n y (omega arith) (omega arith)
    ∙ ap (λ xs. xs ++ y ∷ []) (take-set_at buffer at (at + 1) x refl (omega arith))
    ∙ append_assoc (take at buffer) (x ∷ []) (y ∷ [])

-- let the indices from `at` to `at + 2` be below the length of `buffer`, and let `x`, `y` and `z` be stored at them.
-- The first `at` bytes stay the same. The first `at + 1` bytes end with `x`, the first `at + 2` bytes end with `x` and
-- `y`, and the first `at + 3` bytes end with `x`, `y` and `z`
pub triple-one : (buffer : List ℕ) (at x y z n : ℕ) → n ≡ at + 1 → at + 2 < length buffer
    → take n (set (set (set buffer at x) (at + 1) y) (at + 2) z) ≡ take at buffer ++ x ∷ []
triple-one buffer at x y z n e h =
    take-set-le n (set (set buffer at x) (at + 1) y) (at + 2) z (omega arith) ∙ pair-one buffer at x y n e (omega arith)

pub triple-two : (buffer : List ℕ) (at x y z n : ℕ) → n ≡ at + 2 → at + 2 < length buffer
    → take n (set (set (set buffer at x) (at + 1) y) (at + 2) z) ≡ take at buffer ++ (x ∷ y ∷ [])
triple-two buffer at x y z n e h =
    take-set-le n (set (set buffer at x) (at + 1) y) (at + 2) z (omega arith) ∙ pair-two buffer at x y n e (omega arith)

pub triple-three : (buffer : List ℕ) (at x y z n : ℕ) → n ≡ at + 3 → at + 2 < length buffer
    → take n (set (set (set buffer at x) (at + 1) y) (at + 2) z) ≡ take at buffer ++ (x ∷ y ∷ z ∷ [])
triple-three buffer at x y z n e h =
    let first : length (set buffer at x) ≡ length buffer = length-set buffer at x in
    let second : length (set (set buffer at x) (at + 1) y) ≡ length (set buffer at x) =
    length-set (set buffer at x) (at + 1) y in
    take-set_at (set (set buffer at x) (at + 1) y) (at + 2) n z (omega arith) (omega arith)
    ∙ ap (λ xs. xs ++ z ∷ []) (pair-two buffer at x y (at + 2) refl (omega arith))
    ∙ append_assoc (take at buffer) (x ∷ y ∷ []) (z ∷ [])

-- let the raw value of a difference be below 2^34. At most six digits of the difference come before its last digit
pub few_before : (raw k left total : ℕ) → total < 2 ^ 34 → total ≡ raw + 2 ^ (5 * k) * left → 0 < left → k ≤ 6
few_before raw k left total small e some =
    let heavy : 2 ^ (5 * k) ≤ total = weighs raw (2 ^ (5 * k)) left total some e in
    elim (cases_lt 6 k) [
      | inl many ↦
          let mono : 2 ^ 35 ≤ 2 ^ (5 * k) = pow_mono {i = 35} {j = 5 * k} (omega arith) in
          absurd (omega arith)
      | inr few ↦ few
    ]

-- the raw value of the difference n - 15
raw_near : ℕ → ℕ
raw_near n = raw_difference n 15

holds_one_digit : ℕ → Bool
holds_one_digit n = slice_index ONE_DIGIT n == glyph (raw_near n)

pub near-at : (n : ℕ) → n < 31 → slice_index ONE_DIGIT n ≡ glyph (raw_difference n 15)
unfolding holds_one_digit raw_near glyph
near-at n h = eqb-true _ _ (agree_below_at holds_one_digit (λ _. true) 31 n refl h)

pub near-raw : (a b n : ℕ) → n + b ≡ a + 15 → raw_difference n 15 ≡ raw_difference a b
near-raw a b n e = elim (cases_lt a b) [
  | inl below ↦ omega (arith, raw_below a b below, raw_below n 15 (omega arith))
  | inr above ↦ omega (arith, raw_above a b above, raw_above n 15 (omega arith))
]

pub near-small : (n : ℕ) → n < 31 → raw_difference n 15 < 32
near-small n h = elim (cases_lt n 15) [
  | inl below ↦ omega (arith, raw_below n 15 below)
  | inr above ↦ omega (arith, raw_above n 15 above)
]

-- ASCII.

digit-ascii : (c v : ℕ) → digit_value c ≡ Some v → c < 128
digit-ascii c v e =
    let is : glyph v ≡ c = glyph-digit_value c v e in
    let low : glyph v < 128 = glyph-ascii v (digit_value-below c v e) in
    omega arith

chain_ascii : (digits : List ℕ) → IsChain digits → AllByRecursion (λ c. c < 128) digits
chain_ascii [] chain = absurd chain
chain_ascii (x ∷ []) chain = (digit-ascii x chain.0 chain.1, tt)
chain_ascii (x ∷ y ∷ ys) chain = (digit-ascii x chain.0.0 chain.0.1, chain_ascii (y ∷ ys) chain.1)

pub recursion-ascii : (bytes : List ℕ) → AllByRecursion (λ c. c < 128) bytes → IsAscii bytes
recursion-ascii bytes all = IsAscii-from_all bytes (All-from_recursion (λ c. c < 128) bytes all)

Spells-ascii : (numbers : List ℤ) (text : List ℕ) → Spells numbers text → IsAscii text
Spells-ascii [] text spelled = subst (λ (t : List ℕ). IsAscii t) (sym spelled) IsAscii-nil
Spells-ascii (n ∷ ns) text spelled =
    subst (λ (t : List ℕ). IsAscii t) (sym spelled.3)
    (IsAscii-append spelled.0 spelled.1 (recursion-ascii spelled.0 (chain_ascii spelled.0 spelled.2.is_group.chain))
    (Spells-ascii ns spelled.1 spelled.4))

pub Adds-ascii : (numbers : List ℤ) (old new : List ℕ) → Adds numbers old new → IsAscii old → IsAscii new
Adds-ascii numbers old new adds ascii =
    subst (λ (t : List ℕ). IsAscii t) (sym adds.added)
    (IsAscii-append old adds.digits ascii (Spells-ascii numbers adds.digits adds.spelled))
