-- Blocks: the items of a block, and the numbers of a field.
use Rattle.std.proofs.Common.{◌≡◌, refl, sym, ap, subst, ◌∙◌, ℕ, ◌+◌, ◌-◌, ◌*◌, ◌^◌, ◌<◌, min}
use Rattle.std.proofs.Common.{List, length, slice_index, get_or, map, take, drop, arith, length-drop}
use Rattle.std.proofs.Common.{length-take, append_assoc, false, ◌==◌, ◌/◌, ◌%◌, [], ◌∷◌, ◌++◌}
use Rattle.std.proofs.lemmas.List.{drop-map, drop_min, get_or-drop, get_or-take, take-map, take_min}
use Rattle.std.specs.List.{flat_map}
use Rattle.std.proofs.lemmas.List.Concat.{flat_map-append}
use Rattle.byteorder.specs.Endian.{little_bytes}
use Rattle.sourcemap_compiled.specs.Numbers.{position_number}
use Rattle.sourcemap_tokens.specs.declared.tokens.RawToken.{RawToken}
use Rattle.sourcemap_compiled_write.specs.Blocks.{bases, block_of, field_numbers, head_bases, head_bytes}
use Rattle.sourcemap_compiled_write.specs.Blocks.{start_bytes, width_bytes}
use Rattle.sourcemap_compiled_write.specs.Packing.{fields_of, number_of, padded, token_values}
use Rattle.sourcemap_compiled_write.proofs.PackingLemmas.{get_or-token_values, no_token}

pub block_of-slice : {X : Type 0} (xs : List X) (block from to : ℕ) → from ≡ min (64 * block) (length xs)
    → to ≡ min (64 * block + 64) (length xs) → take (to - from) (drop from xs) ≡ block_of xs block
block_of-slice {X} xs block from to e f =
    let rest : List X = drop (64 * block) xs in
    let many : length rest ≡ length xs - 64 * block = length-drop (64 * block) xs in
    let size : to - from ≡ min 64 (length rest) = omega arith in
    ap (λ (n : ℕ). take (to - from) (drop n xs)) e
    ∙ ap (take (to - from)) (drop_min (64 * block) xs)
    ∙ ap (λ (n : ℕ). take n rest) size ∙ take_min 64 rest

-- an item of the list is an item of its block
pub block_of-at : {X : Type 0} (xs : List X) (index : ℕ) (d : X)
    → get_or (block_of xs (index / 64)) (index % 64) d ≡ get_or xs index d
block_of-at xs index d =
    let place : 64 * (index / 64) + index % 64 ≡ index = omega arith in
    get_or-take 64 (drop (64 * (index / 64)) xs) (index % 64) d (omega arith)
    ∙ get_or-drop (64 * (index / 64)) xs (index % 64) d ∙ ap (λ (n : ℕ). get_or xs n d) place

pub length-block_of : {X : Type 0} (xs : List X) (block : ℕ)
    → length (block_of xs block) ≡ min 64 (length xs - 64 * block)
length-block_of xs block =
    length-take 64 (drop (64 * block) xs) ∙ ap (min 64) (length-drop (64 * block) xs)

-- the values of a block are values of the list
pub token_values-block : (ts : List RawToken) (block field place : ℕ) → place < 64
    → slice_index (token_values (block_of ts block) field) place ≡ slice_index (token_values ts field)
    (64 * block + place)
token_values-block ts block field place l =
    let value = λ (t : RawToken). slice_index (fields_of t) field in
    let same : token_values (block_of ts block) field ≡ take 64 (drop (64 * block) (token_values ts field)) =
    sym (take-map value 64 (drop (64 * block) ts)) ∙ ap (take 64) (sym (drop-map value (64 * block) ts)) in
    ap (λ (xs : List ℕ). slice_index xs place) same
    ∙ get_or-take 64 (drop (64 * block) (token_values ts field)) place 0 l
    ∙ get_or-drop (64 * block) (token_values ts field) place 0

module _ (ts : List RawToken) (ss : List ℕ) where
  pub field_numbers-token : (field k base : ℕ) (xs : List ℕ) → field ≡ k → (k == 7) ≡ false
      → base ≡ slice_index (bases ts) field → xs ≡ padded (map (number_of base) (token_values ts k))
      → xs ≡ field_numbers ts ss field
  unfolding field_numbers
  field_numbers-token field k base xs e other f is =
      let other' : (field == 7) ≡ false = rw e other in
      is ∙ ap (λ (b : ℕ). padded (map (number_of b) (token_values ts k))) f
      ∙ ap (λ (n : ℕ). padded (map (number_of (slice_index (bases ts) field)) (token_values ts n))) (sym e)
      ∙ sym (rw other' refl)

  pub field_numbers-scope : (field : ℕ) (xs : List ℕ) → field ≡ 7 → xs ≡ padded ss → xs ≡ field_numbers ts ss field
  unfolding field_numbers
  field_numbers-scope field xs e is = rw e is

pub field_small : (ts : List RawToken) (field k : ℕ) → field ≡ k
    → ((i : ℕ) → slice_index (token_values ts k) i < 2 ^ 32) → (i : ℕ) → slice_index (token_values ts field) i < 2 ^ 32
field_small ts field k e small i = subst (λ (n : ℕ). slice_index (token_values ts n) i < 2 ^ 32) (sym e) (small i)

-- ---- starts and heads

pub start_bytes-first : (ts : List RawToken) → 0 < length ts
    → little_bytes 8 (position_number ((get_or ts 0 no_token).dst_line, (get_or ts 0 no_token).dst_col))
    ≡ start_bytes ts
unfolding start_bytes
start_bytes-first ts l =
    let line : slice_index (token_values ts 0) 0 ≡ (get_or ts 0 no_token).dst_line =
    get_or-token_values ts 0 0 no_token l in
    let column : slice_index (token_values ts 1) 0 ≡ (get_or ts 0 no_token).dst_col =
    get_or-token_values ts 1 0 no_token l in
    let same : position_number ((get_or ts 0 no_token).dst_line, (get_or ts 0 no_token).dst_col)
    ≡ position_number (slice_index (token_values ts 0) 0, slice_index (token_values ts 1) 0) = omega arith in
    ap (little_bytes 8) same

-- the offset of the body, then the bases, then the widths
pub head_joined : (h0 h1 h2 h3 : List ℕ) (offset : ℕ) (ts : List RawToken) (ss : List ℕ)
    → h1 ≡ h0 ++ flat_map (little_bytes 4) (offset ∷ []) → h2 ≡ h1 ++ flat_map (little_bytes 4) (head_bases ts)
    → h3 ≡ h2 ++ width_bytes ts ss → h3 ≡ h0 ++ head_bytes offset ts ss
unfolding head_bytes
head_joined h0 h1 h2 h3 offset ts ss a b c =
    let front = flat_map (little_bytes 4) (offset ∷ []) in
    let back = flat_map (little_bytes 4) (head_bases ts) in
    c ∙ ap (λ (l : List ℕ). l ++ width_bytes ts ss) (b ∙ ap (λ (l : List ℕ). l ++ back) a
    ∙ append_assoc h0 front back
    ∙ ap (λ (l : List ℕ). h0 ++ l) (sym (flat_map-append (little_bytes 4) (offset ∷ []) (head_bases ts))))
    ∙ append_assoc h0 (flat_map (little_bytes 4) (offset ∷ head_bases ts)) (width_bytes ts ss)
