-- What the reader reads of a block that was written.
use Rattle.std.proofs.Common.{◌≡◌, refl, sym, ap, subst, ◌∙◌, ℕ, zero, suc, ◌+◌, ◌-◌, ◌*◌, ◌%◌, ◌^◌, ◌<◌, ◌≤◌}
use Rattle.std.proofs.Common.{List, [], ◌∷◌, ◌++◌, length, slice_index, get_or, map, replicate, arith, length-append}
use Rattle.std.proofs.Common.{Bool, true, false, ◌==◌, nat_lt, if◌then◌else◌}
use Rattle.std.specs.List.{flat_map}
use Rattle.std.proofs.lemmas.List.{get_or-map, length-map}
use Rattle.byteorder.specs.Endian.{little_bytes}
use Rattle.byteorder.specs.Numbers.{length-bytes_low_first}
use Rattle.sourcemap_tokens.specs.declared.tokens.RawToken.{RawToken}
use Rattle.sourcemap_compiled.specs.Numbers.{u32_at}
use Rattle.sourcemap_compiled.specs.Blocks.{packed_at, token_in, width_at, widths_before}
use Rattle.sourcemap_compiled_write.specs.Blocks.{bases, body_bytes, field_numbers, field_width, head_bases, head_bytes}
use Rattle.sourcemap_compiled_write.specs.Blocks.{width_bytes}
use Rattle.sourcemap_compiled_write.specs.Packing.{field_bytes, fields_of, number_of, padded, token_values}
use Rattle.sourcemap_compiled_write.specs.Pieces.{pieces}
use Rattle.sourcemap_compiled_write.proofs.PackingLemmas.{below_width_of, get_or-token_values, no_token}
use Rattle.sourcemap_compiled_write.proofs.PackingLemmas.{number_of_small}
use Rattle.sourcemap_compiled_write.proofs.PackingLemmas.{value_back, width_of-le}
use Rattle.sourcemap_compiled_write.proofs.StandsLemmas.{Stands, Stands-first, Stands-piece, Stands-rest, bits_at-there}
use Rattle.sourcemap_compiled_write.proofs.StandsLemmas.{byte_at-there, length-field_bytes, length-flat_map-each}
use Rattle.sourcemap_compiled_write.proofs.StandsLemmas.{length-pieces, number-there, pieces-none, pieces-suc}

-- ---- lists of small numbers

-- each number has 32 bits
pub record AreSmall (xs : List ℕ) : Type 0 where
  pub at : (k : ℕ) → slice_index xs k < 2 ^ 32

small-none : AreSmall []
small-none = record { at = λ k. omega arith }

first_or_rest : (x : ℕ) (xs : List ℕ) → x < 2 ^ 32 → AreSmall xs → (k : ℕ) → slice_index (x ∷ xs) k < 2 ^ 32
first_or_rest x xs l s zero = l
first_or_rest x xs l s (suc k) = s.at k

small-cons : (x : ℕ) (xs : List ℕ) → x < 2 ^ 32 → AreSmall xs → AreSmall (x ∷ xs)
small-cons x xs l s = record { at = first_or_rest x xs l s }

-- each number of a list that is written out
abbrev pub EachSmall : List ℕ → Type 0
EachSmall [] = Unit {0}
EachSmall (x ∷ xs) = (x < 2 ^ 32) × EachSmall xs

pub small-list : (xs : List ℕ) → EachSmall xs → AreSmall xs
small-list [] each = small-none
small-list (x ∷ xs) each = small-cons x xs each.0 (small-list xs each.1)

small-append : (xs ys : List ℕ) → AreSmall xs → AreSmall ys → AreSmall (xs ++ ys)
small-append [] ys a b = b
small-append (x ∷ xs) ys a b =
    small-cons x (xs ++ ys) (a.at 0) (small-append xs ys (record { at = λ k. a.at (suc k) }) b)

small-zeros : (n : ℕ) → AreSmall (replicate n 0)
small-zeros zero = small-none
small-zeros (suc n) = small-cons 0 (replicate n 0) (omega arith) (small-zeros n)

small-padded : (xs : List ℕ) → AreSmall xs → AreSmall (padded xs)
small-padded xs s = small-append xs (replicate (64 - length xs) 0) s (small-zeros (64 - length xs))

small-numbers : (base : ℕ) (values : List ℕ) → AreSmall (map (number_of base) values)
small-numbers base [] = small-none
small-numbers base (v ∷ vs) =
    small-cons (number_of base v) (map (number_of base) vs) (number_of_small base v) (small-numbers base vs)

small-either : (b : Bool) (xs ys : List ℕ) → AreSmall xs → AreSmall ys → AreSmall (if b then xs else ys)
small-either true xs ys a b = a
small-either false xs ys a b = b

-- ---- the numbers of a field

zeros-at : (n k : ℕ) → slice_index (replicate n 0) k ≡ 0
zeros-at zero k = refl
zeros-at (suc n) zero = refl
zeros-at (suc n) (suc k) = zeros-at n k

with_zeros-at : (xs : List ℕ) (n k : ℕ) → slice_index (xs ++ replicate n 0) k ≡ slice_index xs k
with_zeros-at [] n k = zeros-at n k
with_zeros-at (x ∷ xs) n zero = refl
with_zeros-at (x ∷ xs) n (suc k) = with_zeros-at xs n k

padded-at : (xs : List ℕ) (k : ℕ) → slice_index (padded xs) k ≡ slice_index xs k
padded-at xs k = with_zeros-at xs (64 - length xs) k

module _ (ts : List RawToken) (ss : List ℕ) where
  field_numbers-small : (field : ℕ) → AreSmall ss → AreSmall (field_numbers ts ss field)
  unfolding field_numbers
  field_numbers-small field s =
      small-either (field == 7) (padded ss)
      (padded (map (number_of (slice_index (bases ts) field)) (token_values ts field))) (small-padded ss s)
      (small-padded (map (number_of (slice_index (bases ts) field)) (token_values ts field))
      (small-numbers (slice_index (bases ts) field) (token_values ts field)))

  pub scope_number-at : (place : ℕ) → slice_index (field_numbers ts ss 7) place ≡ slice_index ss place
  unfolding field_numbers
  scope_number-at place = padded-at ss place

  number-at : (field place : ℕ) → (field == 7) ≡ false → place < length ts
      → slice_index (field_numbers ts ss field) place
      ≡ number_of (slice_index (bases ts) field) (slice_index (fields_of (get_or ts place no_token)) field)
  unfolding field_numbers
  number-at field place other l =
      let base = slice_index (bases ts) field in
      let values = token_values ts field in
      let inside : place < length values = rw (length-map ts (λ t. slice_index (fields_of t) field)) l in
      rw other (padded-at (map (number_of base) values) place
      ∙ get_or-map (number_of base) values place 0 0 inside
      ∙ ap (number_of base) (get_or-token_values ts field place no_token l))

-- one piece of a body
abbrev pub field_piece : List RawToken → List ℕ → ℕ → List ℕ
field_piece ts ss field = field_bytes (field_width ts ss field) (field_numbers ts ss field)

same_token : (t : RawToken) (a b c d e f : ℕ) (g : Bool) → a ≡ t.dst_line → b ≡ t.dst_col → c ≡ t.src_line
    → d ≡ t.src_col → e ≡ t.src_id → f ≡ t.name_id → g ≡ t.is_range
    → ◌≡◌ {A = RawToken} (record {
      dst_line = a;
      dst_col = b;
      src_line = c;
      src_col = d;
      src_id = e;
      name_id = f;
      is_range = g;
    }) t
same_token t a b c d e f g p q r s u v w = rw (p, q, r, s, u, v, w) refl

flag_back : (b : Bool) → nat_lt 0 (number_of 0 (if b then 1 else 0)) ≡ b
flag_back true = refl
flag_back false = refl

module _ (file : List ℕ) (head at : ℕ) (ts : List RawToken) (ss : List ℕ) (near : at < 2 ^ 32)
    (values : (field : ℕ) → field < 7 → AreSmall (token_values ts field)) (scopes : AreSmall ss)
    (head_there : Stands file head (head_bytes at ts ss)) (body_there : Stands file at (body_bytes ts ss)) where
  head_numbers : AreSmall (at ∷ head_bases ts)
  head_numbers =
      small-list (at ∷ head_bases ts)
      (near, (omega arith, (omega arith, (omega arith, (omega arith, (omega arith, tt))))))

  bases-small : AreSmall (bases ts)
  bases-small =
      small-list (bases ts) (
        (values 0 (omega arith)).at 0,
        (
          omega arith,
          (
            omega arith,
            (
              omega arith,
              (
                omega arith,
                (omega arith, (omega arith, (omega arith, tt))),
              ),
            ),
          ),
        ),
      )

  numbers_there : Stands file head (flat_map (little_bytes 4) (at ∷ head_bases ts))
  unfolding head_bytes
  numbers_there =
      Stands-first file head (flat_map (little_bytes 4) (at ∷ head_bases ts)) (width_bytes ts ss) head_there

  widths_there : Stands file (head + 24) (width_bytes ts ss)
  unfolding head_bytes
  widths_there =
      let many = length-flat_map-each (little_bytes 4) 4 (λ x. length-bytes_low_first 0 4 x) (at ∷ head_bases ts) in
      Stands-rest file head (head + 24) (flat_map (little_bytes 4) (at ∷ head_bases ts)) (width_bytes ts ss)
      (omega (arith, many)) head_there

  pub head_number : (k : ℕ) → k < 6 → u32_at file (head + 4 * k) ≡ slice_index (at ∷ head_bases ts) k
  head_number k l = number-there file head (at ∷ head_bases ts) k l (head_numbers.at k) numbers_there

  offset_read : u32_at file head ≡ at
  offset_read =
      let front : head + 4 * 0 ≡ head = omega arith in
      subst (λ (n : ℕ). u32_at file n ≡ at) front (head_number 0 (omega arith))

  width_read : (field : ℕ) → field < 8 → width_at file head field ≡ field_width ts ss field
  unfolding width_bytes
  width_read field l =
      let many = length-pieces (λ k. field_width ts ss k ∷ []) 1 (λ k. refl) field in
      let there : head + 24 + length (pieces (λ k. field_width ts ss k ∷ []) field) ≡ head + 24 + field =
      omega (arith, many) in
      let read = byte_at-there file (head + 24 + length (pieces (λ k. field_width ts ss k ∷ []) field))
      (field_width ts ss field)
      (Stands-piece (λ k. field_width ts ss k ∷ []) file (head + 24) field 8 l widths_there) in
      let narrow = width_of-le (field_numbers ts ss field) in
      ap (λ (n : ℕ). slice_index file n % 64) (sym there) ∙ ap (λ (n : ℕ). n % 64) read ∙ omega arith

  widths_read : (field : ℕ) → field ≤ 8 → 8 * widths_before file head field ≡ length (pieces (field_piece ts ss) field)
  unfolding widths_before
  widths_read zero l = ap length (sym (pieces-none (field_piece ts ss)))
  widths_read (suc field) l =
      let before = widths_read field (omega arith) in
      let here = width_read field (omega arith) in
      let more = ap length (pieces-suc (field_piece ts ss) field)
      ∙ length-append (pieces (field_piece ts ss) field) (field_piece ts ss field) in
      let part = length-field_bytes (field_width ts ss field) (field_numbers ts ss field) in
      omega arith

  pub packed_read : (field place : ℕ) → field < 8 → place < 64
      → packed_at file head field place ≡ slice_index (field_numbers ts ss field) place
  unfolding packed_at body_bytes
  packed_read field place l m =
      let start : u32_at file head + 8 * widths_before file head field ≡ at + length (pieces
      (field_piece ts ss) field) =
      omega (arith, offset_read, widths_read field (omega arith)) in
      let width = width_read field l in
      let small = field_numbers-small ts ss field scopes in
      let narrow = width_of-le (field_numbers ts ss field) in
      let there = Stands-piece (field_piece ts ss) file at field 8 l body_there in
      rw (start, width) (bits_at-there file (at + length (pieces (field_piece ts ss) field)) (field_width ts ss field)
      (field_numbers ts ss field) place m (omega arith) (below_width_of (field_numbers ts ss field) small.at) there)

  value_read : (field place base : ℕ) → field < 7 → (field == 7) ≡ false → place < length ts → length ts ≤ 64
      → base ≡ slice_index (bases ts) field
      → (base + packed_at file head field place) % 2 ^ 32 ≡ slice_index (fields_of (get_or ts place no_token)) field
  value_read field place base l other m few e =
      let value = slice_index (fields_of (get_or ts place no_token)) field in
      let small : value < 2 ^ 32 = subst (λ (n : ℕ). n < 2 ^ 32) (get_or-token_values ts field place no_token m)
      ((values field l).at place) in
      rw (e, packed_read field place (omega arith) (omega arith), number-at ts ss field place other m)
      (value_back (slice_index (bases ts) field) value (bases-small.at field) small)

  pub token_read : (line place : ℕ) → place < length ts → length ts ≤ 64 → line ≡ slice_index (token_values ts 0) 0
      → token_in file line head place ≡ get_or ts place no_token
  token_read line place m few e =
      same_token (get_or ts place no_token) _ _ _ _ _ _ _
      (value_read 0 place line (omega arith) refl m few e)
      (value_read 1 place _ (omega arith) refl m few (head_number 1 (omega arith)))
      (value_read 3 place _ (omega arith) refl m few (head_number 3 (omega arith)))
      (value_read 4 place _ (omega arith) refl m few (head_number 4 (omega arith)))
      (value_read 2 place _ (omega arith) refl m few (head_number 2 (omega arith)))
      (value_read 5 place _ (omega arith) refl m few (head_number 5 (omega arith)))
      (ap (nat_lt 0) (packed_read 6 place (omega arith) (omega arith) ∙ number-at ts ss 6 place refl m)
      ∙ flag_back (get_or ts place no_token).is_range)
