-- Packed numbers: one more number, and a number read back.
use Rattle.std.proofs.Common.{◌≡◌, refl, sym, ap, subst, ◌∙◌, ℕ, zero, suc, ◌+◌, ◌-◌, ◌*◌, ◌/◌, ◌%◌, ◌^◌, ◌<◌, ◌≤◌}
use Rattle.std.proofs.Common.{List, [], ◌∷◌, ◌++◌, length, slice_index, take, arith, append_assoc, inl, inr, max}
use Rattle.std.proofs.Common.{false, get_or, map, replicate, set}
use Rattle.std.specs.List.{fold}
use Rattle.sourcemap_tokens.specs.declared.tokens.RawToken.{RawToken}
use lib.Count.{count_leading_zeros}
use Rattle.std.proofs.lemmas.Bool.{cases_lt}
use Rattle.std.specs.Int.{bytes_low_first}
use Rattle.std.proofs.Math.Nat.{add-mul-div_left, add-mul-div_right, add-mul-mod_self_left, div-eq_of_lt, div-one}
use Rattle.std.proofs.Math.Nat.{mod-eq_of_lt}
use Rattle.std.proofs.Math.Nat.{mul-add, mul_assoc, mul_comm, mul-suc, mul-zero, suc-mul, zero-div, zero-mod, zero-mul}
use Rattle.std.proofs.lemmas.List.{append-nil, get_or-map, get_or-take, get_or_past, length-take, length-take-le}
use Rattle.std.proofs.lemmas.List.{length-map, length_push, map_push}
use Rattle.std.proofs.lemmas.List.{set_at}
use Rattle.std.proofs.lemmas.List.{take_more}
use Rattle.byteorder.specs.Numbers.{length-bytes_low_first}
use Rattle.std.proofs.lemmas.Nat.{leading_length, mul-add-lt, mul-le, pow-add, pow_pos, shr-shr, shr_below}
use Rattle.sourcemap_compiled_write.specs.Packing.{field_bytes, fields_of, number_of, packed, token_values, width_of}
use Rattle.sourcemap_compiled_write.proofs.BytesLemmas.{bytes-low, bytes-shift, bytes-split, pow256}

pub packed-push : (w : ℕ) (xs : List ℕ) (x : ℕ)
    → packed w (xs ++ x ∷ []) ≡ packed w xs + 2 ^ (w * length xs) * x
packed-push w [] x = rw (mul-zero w, mul-zero (2 ^ w)) (omega arith)
packed-push w (y ∷ ys) x =
    let ih = packed-push w ys x in
    let places : w * suc (length ys) ≡ w + w * length ys = mul-suc w (length ys) ∙ omega arith in
    let power : 2 ^ (w * suc (length ys)) * x ≡ 2 ^ w * (2 ^ (w * length ys) * x) =
    ap (λ (n : ℕ). 2 ^ n * x) places ∙ ap (λ (n : ℕ). n * x) (pow-add 2 w (w * length ys))
    ∙ mul_assoc (2 ^ w) (2 ^ (w * length ys)) x in
    let apart : 2 ^ w * (packed w ys + 2 ^ (w * length ys) * x) ≡ 2 ^ w * packed w ys
    + 2 ^ w * (2 ^ (w * length ys) * x) = mul-add (2 ^ w) (packed w ys) (2 ^ (w * length ys) * x) in
    rw (ih, apart, power) (omega arith)

pub packed-below : (w : ℕ) (xs : List ℕ) → ((k : ℕ) → slice_index xs k < 2 ^ w)
    → packed w xs < 2 ^ (w * length xs)
packed-below w [] small = rw (mul-zero w) (omega arith)
packed-below w (x ∷ xs) small =
    let ih = packed-below w xs (λ k. small (suc k)) in
    let here : x < 2 ^ w = small 0 in
    let places : w * suc (length xs) ≡ w + w * length xs = mul-suc w (length xs) ∙ omega arith in
    let power : 2 ^ (w * suc (length xs)) ≡ 2 ^ w * 2 ^ (w * length xs) =
    ap (λ (n : ℕ). 2 ^ n) places ∙ pow-add 2 w (w * length xs) in
    let sum = mul-add-lt (packed w xs) (2 ^ w) x (2 ^ (w * length xs)) ih here in
    let turned = mul_comm (2 ^ w) (packed w xs) in
    rw power (omega arith)

-- a number of the list is what its bits hold
pub packed-at : (w : ℕ) (xs : List ℕ) (i : ℕ) → ((k : ℕ) → slice_index xs k < 2 ^ w)
    → packed w xs / 2 ^ (i * w) % 2 ^ w ≡ slice_index xs i
packed-at w [] i small = rw (zero-div (2 ^ (i * w)), zero-mod (2 ^ w)) refl
packed-at w (x ∷ xs) zero small =
    rw (zero-mul w, div-one (x + 2 ^ w * packed w xs), add-mul-mod_self_left x (2 ^ w) (packed w xs))
    (mod-eq_of_lt (small 0))
packed-at w (x ∷ xs) (suc i) small =
    let here : x < 2 ^ w = small 0 in
    let places : suc i * w ≡ w + i * w = suc-mul i w ∙ omega arith in
    let cut : (x + 2 ^ w * packed w xs) / 2 ^ w ≡ packed w xs =
    add-mul-div_left x (packed w xs) (pow_pos w) ∙ ap (λ (n : ℕ). n + packed w xs) (div-eq_of_lt here) ∙ omega arith in
    let moved : (x + 2 ^ w * packed w xs) / 2 ^ (suc i * w) ≡ packed w xs / 2 ^ (i * w) =
    ap (λ (n : ℕ). (x + 2 ^ w * packed w xs) / 2 ^ n) places
    ∙ sym (shr-shr (x + 2 ^ w * packed w xs) w (i * w)) ∙ ap (λ (n : ℕ). n / 2 ^ (i * w)) cut in
    rw moved (packed-at w xs i (λ k. small (suc k)))

-- ---- the loop that writes packed numbers

-- after the bytes `before`, the numbers `xs` are written in `words` words of 32 bits. `word` has the bits that are left
pub record IsPacked (w : ℕ) (xs before out : List ℕ) (word filled : ℕ) : Type 0 where
  pub words : ℕ
  pub total : w * length xs ≡ 32 * words + filled
  pub word_is : word ≡ packed w xs / 2 ^ (32 * words)
  pub out_is : out ≡ before ++ bytes_low_first 0 (4 * words) (packed w xs)

pub IsPacked-none : (w : ℕ) (before : List ℕ) → IsPacked w [] before before 0 0
IsPacked-none w before = record {
  words = 0;
  total = mul-zero w;
  word_is = refl;
  out_is = sym (append-nil before);
}

module _ (w : ℕ) (xs before out : List ℕ) (word filled : ℕ) (is : IsPacked w xs before out word filled) where
  -- the bits that are left are a number of that many bits
  pub word_below : ((k : ℕ) → slice_index xs k < 2 ^ w) → word < 2 ^ filled
  word_below small =
      let places : w * length xs ≡ filled + 32 * is.words = let t = is.total in omega arith in
      let below : packed w xs < 2 ^ (filled + 32 * is.words) =
      subst (λ n. packed w xs < 2 ^ n) places (packed-below w xs small) in
      rw is.word_is (shr_below (packed w xs) filled (32 * is.words) below)

  module _ (x : ℕ) where
    grown : packed w (xs ++ x ∷ []) ≡ packed w xs + 2 ^ filled * x * 2 ^ (32 * is.words)
    grown =
        let power : 2 ^ (w * length xs) ≡ 2 ^ (32 * is.words) * 2 ^ filled =
        ap (λ (n : ℕ). 2 ^ n) is.total ∙ pow-add 2 (32 * is.words) filled in
        packed-push w xs x
        ∙ ap (λ (n : ℕ). packed w xs + n) (ap (λ (n : ℕ). n * x) power ∙ mul_assoc (2 ^ (32 * is.words)) (2 ^ filled) x
        ∙ mul_comm (2 ^ (32 * is.words)) (2 ^ filled * x))

    pub IsPacked-push : IsPacked w (xs ++ x ∷ []) before out (word + x * 2 ^ filled) (filled + w)
    IsPacked-push = record {
      words = is.words;
      total = rw (length_push xs x, mul-add w (length xs) 1) (let t = is.total in omega arith);
      word_is =
          let cut : packed w (xs ++ x ∷ []) / 2 ^ (32 * is.words) ≡ packed w xs / 2 ^ (32 * is.words) + 2 ^ filled * x =
          ap (λ (n : ℕ). n / 2 ^ (32 * is.words)) grown
          ∙ add-mul-div_right (packed w xs) (2 ^ filled * x) (pow_pos (32 * is.words)) in
          ap (λ (n : ℕ). n + x * 2 ^ filled) is.word_is
          ∙ ap (λ (n : ℕ). packed w xs / 2 ^ (32 * is.words) + n) (mul_comm x (2 ^ filled)) ∙ sym cut;
      out_is =
          let eights : 32 * is.words ≡ 8 * (4 * is.words) = omega arith in
          let power : 2 ^ (32 * is.words) ≡ 256 ^ (4 * is.words) =
          ap (λ (n : ℕ). 2 ^ n) eights ∙ sym (pow256 (4 * is.words)) in
          let same : bytes_low_first 0 (4 * is.words) (packed w (xs ++ x ∷ []))
          ≡ bytes_low_first 0 (4 * is.words) (packed w xs) =
          ap (bytes_low_first 0 (4 * is.words)) (grown
          ∙ ap (λ (n : ℕ). packed w xs + 2 ^ filled * x * n) power)
          ∙ bytes-low 0 (4 * is.words) (4 * is.words) (packed w xs) (2 ^ filled * x) (omega arith) in
          is.out_is ∙ ap (λ ys. before ++ ys) (sym same);
    }

  -- a full word is written
  pub IsPacked-carry : (rest : ℕ) → rest + 32 ≡ filled
      → IsPacked w xs before (out ++ bytes_low_first 0 4 word) (word / 2 ^ 32) rest
  IsPacked-carry rest e = record {
    words = is.words + 1;
    total = let t = is.total in omega arith;
    word_is =
        let places : 32 * is.words + 32 ≡ 32 * (is.words + 1) = omega arith in
        ap (λ (n : ℕ). n / 2 ^ 32) is.word_is ∙ shr-shr (packed w xs) (32 * is.words) 32
        ∙ ap (λ (n : ℕ). packed w xs / 2 ^ n) places;
    out_is =
        let eights : 32 * is.words ≡ 8 * (4 * is.words) = omega arith in
        let power : 2 ^ (32 * is.words) ≡ 256 ^ (4 * is.words) =
        ap (λ (n : ℕ). 2 ^ n) eights ∙ sym (pow256 (4 * is.words)) in
        let last : bytes_low_first 0 4 word ≡ bytes_low_first (4 * is.words) 4 (packed w xs) =
        ap (bytes_low_first 0 4) (is.word_is ∙ ap (λ (n : ℕ). packed w xs / n) power)
        ∙ sym (bytes-shift (4 * is.words) 0 (4 * is.words) 4 (packed w xs) (omega arith)) in
        let all : bytes_low_first 0 (4 * (is.words + 1)) (packed w xs)
        ≡ bytes_low_first 0 (4 * is.words) (packed w xs) ++ bytes_low_first (4 * is.words) 4 (packed w xs) =
        bytes-split 0 (4 * is.words) 4 (4 * (is.words + 1)) (4 * is.words) (packed w xs) (omega arith) (omega arith) in
        ap (λ ys. ys ++ bytes_low_first 0 4 word) is.out_is
        ∙ append_assoc before (bytes_low_first 0 (4 * is.words) (packed w xs)) (bytes_low_first 0 4 word)
        ∙ ap (λ ys. before ++ (bytes_low_first 0 (4 * is.words) (packed w xs) ++ ys)) last
        ∙ ap (λ ys. before ++ ys) (sym all);
  }

  -- after 64 numbers nothing is left
  pub IsPacked-all : length xs ≡ 64 → filled < 32 → out ≡ before ++ field_bytes w xs
  IsPacked-all many few =
      let total : w * 64 ≡ 32 * is.words + filled = subst (λ n. w * n ≡ 32 * is.words + filled) many is.total in
      let words : 4 * is.words ≡ 8 * w = omega arith in
      is.out_is ∙ ap (λ (n : ℕ). before ++ bytes_low_first 0 n (packed w xs)) words

-- ---- steps of the loop, by the index in the list of numbers

take_small : (w k : ℕ) (xs : List ℕ) → ((i : ℕ) → slice_index xs i < 2 ^ w)
    → (i : ℕ) → slice_index (take k xs) i < 2 ^ w
take_small w k xs small i = elim (cases_lt i k) [
  | inl inside ↦ rw (get_or-take k xs i 0 inside) (small i)
  | inr past ↦
      let many = length-take k xs in
      rw (get_or_past (take k xs) i 0 (omega arith)) (pow_pos w)
]

module _ (w k : ℕ) (xs before out : List ℕ) (word filled : ℕ) (is : IsPacked w (take k xs) before out word filled)
    (inside : k < length xs) where
  pub IsPacked-next : IsPacked w (take (k + 1) xs) before out (word + slice_index xs k * 2 ^ filled) (filled + w)
  IsPacked-next =
      subst (λ (ys : List ℕ). IsPacked w ys before out (word + slice_index xs k * 2 ^ filled) (filled + w))
      (sym (take_more xs k 0 inside)) (IsPacked-push w (take k xs) before out word filled is (slice_index xs k))

  -- the sum has 64 bits
  pub next_below : ((i : ℕ) → slice_index xs i < 2 ^ w) → word + slice_index xs k * 2 ^ filled < 2 ^ (filled + w)
  next_below small =
      word_below w (take (k + 1) xs) before out (word + slice_index xs k * 2 ^ filled) (filled + w) IsPacked-next
      (take_small w (k + 1) xs small)

pub IsPacked-at : (w : ℕ) (xs before out out' : List ℕ) (word word' filled filled' : ℕ)
    → IsPacked w xs before out word filled → out' ≡ out → word' ≡ word → filled' ≡ filled
    → IsPacked w xs before out' word' filled'
IsPacked-at w xs before out out' word word' filled filled' is a b c =
    subst (λ (x : List ℕ). IsPacked w xs before x word' filled') (sym a)
    (subst (λ (x : ℕ). IsPacked w xs before out x filled') (sym b)
    (subst (λ (x : ℕ). IsPacked w xs before out word x) (sym c) is))

-- how many bytes are written, and that four more have room
module _ (w k : ℕ) (xs out : List ℕ) (word filled : ℕ) (is : IsPacked w (take k xs) [] out word filled)
    (inside : k ≤ length xs) where
  pub packed_bytes : 8 * length out + filled ≡ w * k
  packed_bytes =
      let many : length out ≡ 4 * is.words =
      ap length is.out_is ∙ length-bytes_low_first 0 (4 * is.words) (packed w (take k xs)) in
      let total : w * k ≡ 32 * is.words + filled =
      subst (λ (n : ℕ). w * n ≡ 32 * is.words + filled) (length-take-le k xs inside) is.total in
      omega arith

  pub packed_room : w ≤ 32 → k < 64 → 32 ≤ filled + w → length out + 4 ≤ 256
  packed_room narrow few full =
      let sum : w * (k + 1) ≡ w * k + w * 1 = mul-add w k 1 in
      let most : w * (k + 1) ≤ 32 * 64 = mul-le w (k + 1) 32 64 narrow (omega arith) in
      omega (arith, packed_bytes)

-- four bytes do not see what stands above 32 bits
pub bytes-of_low : (n : ℕ) → bytes_low_first 0 4 (n % 2 ^ 32) ≡ bytes_low_first 0 4 n
bytes-of_low n =
    let whole : n % 2 ^ 32 + n / 2 ^ 32 * 256 ^ 4 ≡ n = omega arith in
    sym (bytes-low 0 4 4 (n % 2 ^ 32) (n / 2 ^ 32) (omega arith)) ∙ ap (bytes_low_first 0 4) whole

-- the width of the greatest number has room for every number
pub below_width : (greatest n : ℕ) → greatest < 2 ^ 32 → n ≤ greatest
    → n < 2 ^ (32 - count_leading_zeros 32 greatest)
below_width greatest n small l =
    let top = leading_length 32 greatest small in
    let width : 32 - count_leading_zeros 32 greatest ≡ top.0 = omega (arith, top.1) in
    rw width (omega (arith, top.2))

-- ---- the values, numbers and width of a field

abbrev pub no_token : RawToken
no_token = record {
  dst_line = 0;
  dst_col = 0;
  src_line = 0;
  src_col = 0;
  src_id = 0;
  name_id = 0;
  is_range = false;
}

pub get_or-token_values : (tokens : List RawToken) (field i : ℕ) (d : RawToken) → i < length tokens
    → get_or (token_values tokens field) i 0 ≡ slice_index (fields_of (get_or tokens i d)) field
get_or-token_values tokens field i d l = get_or-map (λ t. slice_index (fields_of t) field) tokens i d 0 l

-- values that are small as far as there are tokens
pub small_all : (tokens : List RawToken) (field n : ℕ) → length tokens ≤ n
    → ((k : ℕ) → k < n → slice_index (token_values tokens field) k < 2 ^ 32)
    → (k : ℕ) → slice_index (token_values tokens field) k < 2 ^ 32
small_all tokens field n l small k = elim (cases_lt k n) [
  | inl inside ↦ small k inside
  | inr past ↦
      let many = length-map tokens (λ t. slice_index (fields_of t) field) in
      rw (get_or_past (token_values tokens field) k 0 (omega arith)) (omega arith)
]

-- the numbers of one token more
pub numbers_more : (base : ℕ) (tokens : List RawToken) (field i : ℕ) (d : RawToken) → i < length tokens
    → map (number_of base) (token_values (take (i + 1) tokens) field)
    ≡ map (number_of base) (token_values (take i tokens) field)
    ++ number_of base (slice_index (fields_of (get_or tokens i d)) field) ∷ []
numbers_more base tokens field i d l =
    ap (λ (ts : List RawToken). map (number_of base) (token_values ts field)) (take_more tokens i d l)
    ∙ ap (map (number_of base)) (map_push (λ t. slice_index (fields_of t) field) (take i tokens) (get_or tokens i d))
    ∙ map_push (number_of base) (token_values (take i tokens) field)
    (slice_index (fields_of (get_or tokens i d)) field)

-- one more number before the zeros
pub fill_more : (xs : List ℕ) (n i y : ℕ) → length xs ≡ i → i < n
    → set (xs ++ replicate (n - i) 0) i y ≡ xs ++ y ∷ [] ++ replicate (n - (i + 1)) 0
fill_more xs n i y e l =
    let less : n - i ≡ suc (n - (i + 1)) = omega arith in
    ap (λ (m : ℕ). set (xs ++ replicate m 0) i y) less ∙ set_at xs 0 (replicate (n - (i + 1)) 0) y i e
    ∙ sym (append_assoc xs (y ∷ []) (replicate (n - (i + 1)) 0))

le_start : (a : ℕ) (xs : List ℕ) → a ≤ fold max a xs
le_start a [] = omega arith
le_start a (x ∷ xs) = let more = le_start (max a x) xs in omega arith

le_item : (a : ℕ) (xs : List ℕ) (k : ℕ) → slice_index xs k ≤ fold max a xs
le_item a [] k = omega arith
le_item a (x ∷ xs) zero = let more = le_start (max a x) xs in omega arith
le_item a (x ∷ xs) (suc k) = le_item (max a x) xs k

pub le_greatest : (xs : List ℕ) (k : ℕ) → slice_index xs k ≤ fold max 0 xs
le_greatest xs k = le_item 0 xs k

fold_max_small : (a : ℕ) (xs : List ℕ) → a < 2 ^ 32 → ((k : ℕ) → slice_index xs k < 2 ^ 32) → fold max a xs < 2 ^ 32
fold_max_small a [] l small = l
fold_max_small a (x ∷ xs) l small =
    let here : x < 2 ^ 32 = small 0 in
    fold_max_small (max a x) xs (omega arith) (λ k. small (suc k))

pub width_of-le : (xs : List ℕ) → width_of xs ≤ 32
width_of-le xs = omega arith

-- the width has room for every number
pub below_width_of : (xs : List ℕ) → ((k : ℕ) → slice_index xs k < 2 ^ 32) → (k : ℕ)
    → slice_index xs k < 2 ^ width_of xs
below_width_of xs small k =
    below_width (fold max 0 xs) (slice_index xs k) (fold_max_small 0 xs (omega arith) small) (le_greatest xs k)

-- base plus number is the value
pub value_back : (base value : ℕ) → base < 2 ^ 32 → value < 2 ^ 32
    → (base + number_of base value) % 2 ^ 32 ≡ value
value_back base value l m = omega arith

pub number_of_small : (base value : ℕ) → number_of base value < 2 ^ 32
number_of_small base value = omega arith
