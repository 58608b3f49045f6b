-- The bytes of a number, lowest first, and bits that are read of them.
use Rattle.std.proofs.Common.{◌≡◌, refl, sym, ap, ◌∙◌, ℕ, zero, suc, ◌+◌, ◌-◌, ◌*◌, ◌/◌, ◌%◌, ◌^◌, ◌<◌, ◌≤◌, min}
use Rattle.std.proofs.Common.{List, ◌∷◌, ◌++◌, length, drop, arith, append_assoc}
use Rattle.std.specs.Int.{byte_at, bytes_low_first}
use Rattle.std.proofs.Math.Nat.{add-mul, add-mul-div_right, add_assoc, div-add-mod', div-div-eq-div-mul, div-one}
use Rattle.std.proofs.Math.Nat.{mod-eq_of_lt, mod-lt, mul-add-mod_self_right, mul-le-mul_right, mul_assoc, mul_comm}
use Rattle.std.proofs.Math.Nat.{mod-mod, one-le-pow, pow-suc}
use Rattle.std.proofs.lemmas.List.{drop-drop, drop_at}
use Rattle.std.proofs.lemmas.Nat.{field_of, mod-pow-add, pow-add, shr-shr}
use Rattle.byteorder.specs.Endian.{little_from}
use Rattle.byteorder.specs.Numbers.{length-bytes_low_first, little_from-cons}
use Rattle.sourcemap_compiled.specs.Numbers.{bits_at, u64_at}

byte_at-pow : (k x : ℕ) → byte_at k x ≡ x / 256 ^ k % 256
byte_at-pow zero x = ap (λ (y : ℕ). y % 256) (sym (div-one x))
byte_at-pow (suc k) x = refl

pow256_pos : (n : ℕ) → zero < 256 ^ n
pow256_pos n = let h = one-le-pow n 256 (omega arith) in omega arith

pub pow256 : (k : ℕ) → 256 ^ k ≡ 2 ^ (8 * k)
pow256 zero = refl
pow256 (suc k) =
    let eight : 8 * suc k ≡ 8 * k + 8 = omega arith in
    pow-suc 256 k ∙ ap (λ (n : ℕ). n * 256) (pow256 k) ∙ sym (ap (λ (n : ℕ). 2 ^ n) eight ∙ pow-add 2 (8 * k) 8)

-- ---- parts of the bytes of a number

pub bytes-split : (i a b n k x : ℕ) → a + b ≡ n → i + a ≡ k
    → bytes_low_first i n x ≡ bytes_low_first i a x ++ bytes_low_first k b x
bytes-split i zero b n k x e f =
    let many : n ≡ b = omega arith in
    let from : i ≡ k = omega arith in
    ap (λ m. bytes_low_first i m x) many ∙ ap (λ m. bytes_low_first m b x) from
bytes-split i (suc a) b zero k x e f = absurd (omega arith)
bytes-split i (suc a) b (suc n) k x e f =
    ap (λ rest. byte_at i x ∷ rest) (bytes-split (suc i) a b n k x (omega arith) (omega arith))

byte-shift : (i j k x : ℕ) → i + j ≡ k → byte_at k x ≡ byte_at j (x / 256 ^ i)
byte-shift i j k x e =
    let whole : 256 ^ k ≡ 256 ^ i * 256 ^ j = ap (λ (n : ℕ). 256 ^ n) (sym e) ∙ pow-add 256 i j in
    byte_at-pow k x ∙ ap (λ (n : ℕ). x / n % 256) whole
    ∙ ap (λ (n : ℕ). n % 256) (sym (div-div-eq-div-mul x (256 ^ i) (256 ^ j))) ∙ sym (byte_at-pow j (x / 256 ^ i))

pub bytes-shift : (i j k n x : ℕ) → i + j ≡ k → bytes_low_first k n x ≡ bytes_low_first j n (x / 256 ^ i)
bytes-shift i j k zero x e = refl
bytes-shift i j k (suc n) x e =
    let here = byte-shift i j k x e in
    let rest = bytes-shift i (suc j) (suc k) n x (omega arith) in
    rw (here, rest) refl

-- a byte of a number does not see what is added far above it
byte-low : (i m x y : ℕ) → i < m → byte_at i (x + y * 256 ^ m) ≡ byte_at i x
byte-low i m x y l =
    let r = m - i - 1 in
    let places : m ≡ r + 1 + i = omega arith in
    let power : 256 ^ m ≡ 256 ^ r * 256 * 256 ^ i =
    ap (λ (n : ℕ). 256 ^ n) places ∙ pow-add 256 (r + 1) i ∙ ap (λ (n : ℕ). n * 256 ^ i) (pow-add 256 r 1) in
    let whole : y * 256 ^ m ≡ y * (256 ^ r * 256) * 256 ^ i =
    ap (λ (n : ℕ). y * n) power ∙ sym (mul_assoc y (256 ^ r * 256) (256 ^ i)) in
    let above : y * (256 ^ r * 256) ≡ y * 256 ^ r * 256 = sym (mul_assoc y (256 ^ r) 256) in
    let cut : (x + y * 256 ^ m) / 256 ^ i ≡ x / 256 ^ i + y * (256 ^ r * 256) =
    ap (λ (n : ℕ). (x + n) / 256 ^ i) whole ∙ add-mul-div_right x (y * (256 ^ r * 256)) (pow256_pos i) in
    byte_at-pow i (x + y * 256 ^ m) ∙ ap (λ (n : ℕ). n % 256) cut ∙ rw above (omega arith) ∙ sym (byte_at-pow i x)

pub bytes-low : (i n m x y : ℕ) → i + n ≤ m → bytes_low_first i n (x + y * 256 ^ m) ≡ bytes_low_first i n x
bytes-low i zero m x y l = refl
bytes-low i (suc n) m x y l =
    let here = byte-low i m x y (omega arith) in
    let rest = bytes-low (suc i) n m x y (omega arith) in
    rw (here, rest) refl

-- ---- reading

-- the two low digits of n, to the bases c and then m
mod-split : (n : ℕ) {m c : ℕ} → zero < m → zero < c → n % (m * c) ≡ (n / c % m) * c + n % c
mod-split n {m} {c} hm hc =
    let a = mod-lt (n / c) hm in
    let b = mod-lt n hc in
    let top : (n / c % m + 1) * c ≤ m * c = mul-le-mul_right c (omega arith) in
    let expand : (n / c % m + 1) * c ≡ n / c % m * c + 1 * c = add-mul (n / c % m) 1 c in
    let split : n ≡ n / c / m * (m * c) + (n / c % m * c + n % c) =
    sym (div-add-mod' n c)
    ∙ ap (λ (x : ℕ). x * c + n % c) (sym (div-add-mod' (n / c) m))
    ∙ ap (λ (x : ℕ). x + n % c) (add-mul (n / c / m * m) (n / c % m) c
    ∙ ap (λ (x : ℕ). x + n / c % m * c) (mul_assoc (n / c / m) m c))
    ∙ add_assoc (n / c / m * (m * c)) (n / c % m * c) (n % c) in
    ap (λ (x : ℕ). x % (m * c)) split ∙ mul-add-mod_self_right (n / c / m) (m * c) (n / c % m * c + n % c)
    ∙ mod-eq_of_lt (omega arith)

turn : (p l : ℕ) → p * 256 * l ≡ 256 * (p * l)
turn p l = ap (λ (z : ℕ). z * l) (mul_comm p 256) ∙ mul_assoc 256 p l

-- the number in the bytes of x from byte j on, and in the bytes that follow
pub little_from-then : (q r n j x : ℕ) (post : List ℕ) → q + r ≡ n
    → little_from 0 n (bytes_low_first j q x ++ post) ≡ x / 256 ^ j % 256 ^ q + 256 ^ q * little_from 0 r post
little_from-then zero r n j x post e =
    let many : n ≡ r = omega arith in
    ap (λ m. little_from 0 m post) many ∙ omega arith
little_from-then (suc q) r zero j x post e = absurd (omega arith)
little_from-then (suc q) r (suc n) j x post e =
    let moved = little_from-cons 0 n (byte_at j x) (bytes_low_first (suc j) q x ++ post) in
    let ih = little_from-then q r n (suc j) x post (omega arith) in
    let shift : x / 256 ^ suc j ≡ x / 256 ^ j / 256 =
    ap (λ (p : ℕ). x / p) (pow-suc 256 j) ∙ sym (div-div-eq-div-mul x (256 ^ j) 256) in
    let split = mod-split (x / 256 ^ j) {m = 256 ^ q} {c = 256} (pow256_pos q) (omega arith) in
    let turned = turn (256 ^ q) (little_from 0 r post) in
    rw (moved, ih, shift, byte_at-pow j x, pow-suc 256 q, split, turned) (omega arith)

-- the low bits of a number do not see what stands above its bytes
low_bits : (y q b t : ℕ) → t ≤ 8 * q → (y % 256 ^ q + 256 ^ q * b) % 2 ^ t ≡ y % 2 ^ t
low_bits y q b t l =
    let d = 8 * q - t in
    let places : 8 * q ≡ d + t = omega arith in
    let power : 256 ^ q ≡ 2 ^ (d + t) = pow256 q ∙ ap (λ (n : ℕ). 2 ^ n) places in
    let product : 256 ^ q ≡ 2 ^ d * 2 ^ t = power ∙ pow-add 2 d t in
    let low : y % 256 ^ q ≡ (y / 2 ^ t % 2 ^ d) * 2 ^ t + y % 2 ^ t =
    ap (λ (n : ℕ). y % n) power ∙ mod-pow-add y d t in
    let high : 256 ^ q * b ≡ 2 ^ d * b * 2 ^ t =
    ap (λ (n : ℕ). n * b) product ∙ mul_assoc (2 ^ d) (2 ^ t) b ∙ ap (λ (n : ℕ). 2 ^ d * n) (mul_comm (2 ^ t) b)
    ∙ sym (mul_assoc (2 ^ d) b (2 ^ t)) in
    let joined : (y / 2 ^ t % 2 ^ d + 2 ^ d * b) * 2 ^ t ≡ (y / 2 ^ t % 2 ^ d) * 2 ^ t + 2 ^ d * b * 2 ^ t =
    add-mul (y / 2 ^ t % 2 ^ d) (2 ^ d * b) (2 ^ t) in
    let sum : y % 256 ^ q + 256 ^ q * b ≡ (y / 2 ^ t % 2 ^ d + 2 ^ d * b) * 2 ^ t + y % 2 ^ t = omega arith in
    ap (λ (n : ℕ). n % 2 ^ t) sum ∙ mul-add-mod_self_right (y / 2 ^ t % 2 ^ d + 2 ^ d * b) (2 ^ t) (y % 2 ^ t)
    ∙ mod-mod y (2 ^ t)

-- the bits of a number that is stored in n bytes
module _ (pre post : List ℕ) (n x bit w : ℕ) (inside : bit + w ≤ 8 * n) (few : w ≤ 57) where
  abbrev k : ℕ
  k = bit / 8

  abbrev s : ℕ
  s = bit % 8

  abbrev q : ℕ
  q = min (n - k) 8

  abbrev rest : List ℕ
  rest = bytes_low_first (k + q) (n - k - q) x ++ post

  from_there : drop (length pre + k) (pre ++ (bytes_low_first 0 n x ++ post)) ≡ bytes_low_first k q x ++ rest
  from_there =
      let first = bytes-split 0 k (n - k) n k x (omega arith) (omega arith) in
      let second = bytes-split k q (n - k - q) (n - k) (k + q) x (omega arith) refl in
      let front : drop (length pre) (pre ++ (bytes_low_first 0 n x ++ post)) ≡ bytes_low_first 0 n x ++ post =
      drop_at pre (bytes_low_first 0 n x ++ post) (length pre) refl in
      let parts : bytes_low_first 0 n x ++ post ≡ bytes_low_first 0 k x ++ (bytes_low_first k (n - k) x ++ post) =
      ap (λ ys. ys ++ post) first ∙ append_assoc (bytes_low_first 0 k x) (bytes_low_first k (n - k) x) post in
      sym (drop-drop k (length pre) (pre ++ (bytes_low_first 0 n x ++ post)))
      ∙ ap (drop k) (front ∙ parts)
      ∙ drop_at (bytes_low_first 0 k x) (bytes_low_first k (n - k) x ++ post) k (length-bytes_low_first 0 k x)
      ∙ ap (λ ys. ys ++ post) second
      ∙ append_assoc (bytes_low_first k q x) (bytes_low_first (k + q) (n - k - q) x) post

  word : u64_at (pre ++ (bytes_low_first 0 n x ++ post)) (length pre + k) % 2 ^ (w + s) ≡ x / 256 ^ k % 2 ^ (w + s)
  unfolding u64_at
  word =
      ap (λ ys. little_from 0 8 ys % 2 ^ (w + s)) from_there
      ∙ ap (λ (m : ℕ). m % 2 ^ (w + s)) (little_from-then q (8 - q) 8 k x rest (omega arith))
      ∙ low_bits (x / 256 ^ k) q (little_from 0 (8 - q) rest) (w + s) (omega arith)

  pub bits_at-bytes : bits_at (pre ++ (bytes_low_first 0 n x ++ post)) (length pre) bit w ≡ x / 2 ^ bit % 2 ^ w
  unfolding bits_at
  bits_at-bytes =
      let places : 8 * k + s ≡ bit = omega arith in
      sym (field_of (u64_at (pre ++ (bytes_low_first 0 n x ++ post)) (length pre + k)) w s)
      ∙ ap (λ (m : ℕ). m / 2 ^ s) word
      ∙ field_of (x / 256 ^ k) w s
      ∙ ap (λ (m : ℕ). m % 2 ^ w) (ap (λ (m : ℕ). x / m / 2 ^ s) (pow256 k) ∙ shr-shr x (8 * k) s
      ∙ ap (λ (m : ℕ). x / 2 ^ m) places)
