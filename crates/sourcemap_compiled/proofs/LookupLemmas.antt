-- The index at which the search in a compiled map ends determines the closest token.
use Rattle.std.proofs.Common.{◌≡◌, refl, sym, ap, subst, ◌∙◌, ℕ, ◌+◌, ◌-◌, ◌*◌, ◌/◌, ◌%◌, ◌^◌, ◌<◌, ◌≤◌}
use Rattle.std.proofs.Common.{List, length, get_or}
use Rattle.std.proofs.Common.{zero, suc, zero-add, Bool, true, false, ◌==◌, if◌then◌else◌, arith, inl, inr, min, Some, None}
use Rattle.std.specs.Ordering.{is_eq, is_lt}
use Rattle.std.proofs.lemmas.Bool.{cases_eq, cases_lt, cases_order}
use Rattle.std.proofs.lemmas.Bool.Decides.{nat_tests}
use Rattle.std.proofs.lemmas.List.FromFn.{get_or-map-range_with_len, length-map-range_with_len}
use Rattle.sourcemap_tokens.specs.declared.tokens.RawToken.{RawToken}
use Rattle.sourcemap_tokens.specs.Tokens.{closest_token, destination, position_cmp}
use Rattle.sourcemap_tokens.proofs.SearchLemmas.{IsApart, IsBracket, closest-hit, closest-miss, closest-none}
use Rattle.sourcemap_tokens.proofs.TokensLemmas.{position_cmp_total}
use Rattle.sourcemap_compiled.specs.Blocks.{compiled_token, compiled_tokens, position_in, start_at, token_in}
use Rattle.sourcemap_compiled.specs.Layout.{block_count, head_offset, token_count}
use Rattle.sourcemap_compiled.specs.Lookup.{IsFirstAt, IsInOrder, position_of}
use Rattle.sourcemap_compiled.specs.Numbers.{position_number}
use Rattle.sourcemap_compiled.specs.Stored.{IsNear}

-- ---- positions as numbers

pub less_by_number : (a b c d : ℕ) → b < 2 ^ 32 → d < 2 ^ 32 → a * 2 ^ 32 + b < c * 2 ^ 32 + d
    → is_lt (position_cmp (a, b) (c, d)) ≡ true
less_by_number a b c d m n l = elim (cases_order a c) [
  | inl same ↦ let later : b < d = omega arith in grind (arith, nat_tests)
  | inr (inl less) ↦ grind (arith, nat_tests)
  | inr (inr more) ↦ absurd (omega arith)
]

pub not_less_by_number : (a b c d : ℕ) → b < 2 ^ 32 → d < 2 ^ 32 → c * 2 ^ 32 + d ≤ a * 2 ^ 32 + b
    → is_lt (position_cmp (a, b) (c, d)) ≡ false
not_less_by_number a b c d m n l = elim (cases_order a c) [
  | inl same ↦ let later : d ≤ b = omega arith in grind (arith, nat_tests)
  | inr (inl less) ↦ absurd (omega arith)
  | inr (inr more) ↦ grind (arith, nat_tests)
]

same_by_number : (a b c d : ℕ) → b < 2 ^ 32 → d < 2 ^ 32 → a * 2 ^ 32 + b ≡ c * 2 ^ 32 + d
    → is_eq (position_cmp (a, b) (c, d)) ≡ true
same_by_number a b c d m n l =
    let line : a ≡ c = omega arith in
    let column : b ≡ d = omega arith in
    grind (arith, nat_tests)

apart_by_number : (a b c d : ℕ) → (a * 2 ^ 32 + b ≡ c * 2 ^ 32 + d → ⊥) → is_eq (position_cmp (a, b) (c, d)) ≡ false
apart_by_number a b c d other = elim (cases_eq a c) [
  | inl line ↦ elim (cases_eq b d) [
    | inl column ↦ absurd (other (omega arith))
    | inr column ↦ grind (arith, nat_tests)
  ]
  | inr line ↦ grind (arith, nat_tests)
]

-- ---- positions that have the right line, and the right column only on the line of a search

pub near_same : {exact line near : ℕ} → near ≡ exact → IsNear exact line near
near_same {exact} {line} same = record {
  same = λ on. same;
  earlier = λ l. subst (λ n. n / 2 ^ 32 < line) (sym same) l;
  later = λ l. subst (λ n. line < n / 2 ^ 32) (sym same) l;
}

pub near_on : {exact line near : ℕ} → IsNear exact line near → near / 2 ^ 32 ≡ line → near ≡ exact
near_on {exact} {line} is on = elim (cases_order (exact / 2 ^ 32) line) [
  | inl here ↦ is.same here
  | inr (inl less) ↦ let l = is.earlier less in absurd (omega arith)
  | inr (inr more) ↦ let l = is.later more in absurd (omega arith)
]

pub near_below : {exact position near : ℕ} → IsNear exact (position / 2 ^ 32) near → near < position → exact < position
near_below {exact} {position} is l = elim (cases_order (exact / 2 ^ 32) (position / 2 ^ 32)) [
  | inl on ↦ subst (λ n. n < position) (is.same on) l
  | inr (inl less) ↦ omega arith
  | inr (inr more) ↦ let m = is.later more in absurd (omega arith)
]

pub near_from : {exact position near : ℕ} → IsNear exact (position / 2 ^ 32) near → position ≤ near → position ≤ exact
near_from {exact} {position} is l = elim (cases_order (exact / 2 ^ 32) (position / 2 ^ 32)) [
  | inl on ↦ subst (λ n. position ≤ n) (is.same on) l
  | inr (inl less) ↦ let m = is.earlier less in absurd (omega arith)
  | inr (inr more) ↦ omega arith
]

pub near_hit : {exact position near : ℕ} → IsNear exact (position / 2 ^ 32) near → near ≡ position → exact ≡ position
near_hit is hit = sym (near_on is (ap (λ n. n / 2 ^ 32) hit)) ∙ hit

pub near_back : {exact position near : ℕ} → IsNear exact (position / 2 ^ 32) near → exact ≡ position
    → near ≡ position
near_back is hit = is.same (ap (λ n. n / 2 ^ 32) hit) ∙ hit

-- ---- tokens by index

-- the first token of a block
pub position_of-first : (bytes : List ℕ) (block : ℕ) → position_of bytes (64 * block) ≡ start_at bytes block
unfolding compiled_token
position_of-first bytes block =
    let of_block : 64 * block / 64 ≡ block = omega arith in
    let of_place : 64 * block % 64 ≡ 0 = omega arith in
    rw (of_block, of_place) (omega arith)

pick_other : (b : Bool) (t : RawToken) (line column : ℕ) → b ≡ false
    → (if b then record t { dst_line = line; dst_col = column } else t) ≡ t
pick_other b t line column e = rw e refl

-- the token at another place
pub token_at_place : (bytes : List ℕ) (block place : ℕ) → 0 < place → place < 64
    → compiled_token bytes (64 * block + place)
    ≡ token_in bytes (start_at bytes block / 2 ^ 32) (head_offset bytes block) place
unfolding compiled_token
token_at_place bytes block place some l =
    let of_block : (64 * block + place) / 64 ≡ block = omega arith in
    let of_place : (64 * block + place) % 64 ≡ place = omega arith in
    let other : (place == 0) ≡ false = grind (arith, nat_tests) in
    rw (of_block, of_place) (pick_other (place == 0)
    (token_in bytes (start_at bytes block / 2 ^ 32) (head_offset bytes block) place) (start_at bytes block / 2 ^ 32)
    (start_at bytes block % 2 ^ 32) other)

placed_at : (bytes : List ℕ) (block place : ℕ) → 0 < place → place < 64
    → position_of bytes (64 * block + place)
    ≡ position_in bytes (start_at bytes block / 2 ^ 32) (head_offset bytes block) place
placed_at bytes block place some l = ap (λ t. position_number (destination t)) (token_at_place bytes block place some l)

with_same : (t : RawToken) (line column : ℕ) → line ≡ t.dst_line → column ≡ t.dst_col
    → record t { dst_line = line; dst_col = column } ≡ t
with_same t line column a b = rw (a, b) refl

-- the token at any place, if the numbers at place 0 say where the block starts
pub token_of_block : (bytes : List ℕ) (block place : ℕ) → place < 64
    → start_at bytes block ≡ position_in bytes (start_at bytes block / 2 ^ 32) (head_offset bytes block) 0
    → compiled_token bytes (64 * block + place)
    ≡ token_in bytes (start_at bytes block / 2 ^ 32) (head_offset bytes block) place
unfolding compiled_token
token_of_block bytes block zero l starts =
    let of_block : (64 * block + 0) / 64 ≡ block = omega arith in
    let of_place : (64 * block + 0) % 64 ≡ 0 = omega arith in
    rw (of_block, of_place) (with_same
    (token_in bytes (start_at bytes block / 2 ^ 32) (head_offset bytes block) 0) (start_at bytes block / 2 ^ 32)
    (start_at bytes block % 2 ^ 32) (omega arith) (omega arith))
token_of_block bytes block (suc place) l starts = token_at_place bytes block (suc place) (omega arith) l

over : (b : Bool) (t : RawToken) (line column line' column' : ℕ)
    → record t { dst_line = line'; dst_col = column' }
    ≡ record (if b then record t { dst_line = line; dst_col = column } else t) { dst_line = line'; dst_col = column' }
over true t line column line' column' = refl
over false t line column line' column' = refl

rest_of_token : (bytes : List ℕ) (index line column : ℕ)
    → record (token_in bytes (start_at bytes (index / 64) / 2 ^ 32) (head_offset bytes (index / 64)) (index % 64)) {
      dst_line = line;
      dst_col = column;
    }
    ≡ record (compiled_token bytes index) { dst_line = line; dst_col = column }
unfolding compiled_token
rest_of_token bytes index line column =
    over (index % 64 == 0)
    (token_in bytes (start_at bytes (index / 64) / 2 ^ 32) (head_offset bytes (index / 64)) (index % 64))
    (start_at bytes (index / 64) / 2 ^ 32) (start_at bytes (index / 64) % 2 ^ 32) line column

pub length-compiled_tokens : (bytes : List ℕ) → length (compiled_tokens bytes) ≡ token_count bytes
length-compiled_tokens bytes = length-map-range_with_len (compiled_token bytes) 0 (token_count bytes)

pub get_or-compiled_tokens : (bytes : List ℕ) (index : ℕ) (d : RawToken) → index < token_count bytes
    → get_or (compiled_tokens bytes) index d ≡ compiled_token bytes index
get_or-compiled_tokens bytes index d l =
    get_or-map-range_with_len (compiled_token bytes) 0 (token_count bytes) index index d l (zero-add index)

-- the generated column of a token has 32 bits
pub column_small : (bytes : List ℕ) (index : ℕ) → (compiled_token bytes index).dst_col < 2 ^ 32
unfolding compiled_token
column_small bytes index = elim (cases_eq (index % 64) 0) [
  | inl first ↦ rw first (omega arith)
  | inr later ↦ let other : (index % 64 == 0) ≡ false = grind (arith, nat_tests) in rw other (omega arith)
]

-- a token from its numbers and its position
pub with_position : (bytes : List ℕ) (index position : ℕ) → position ≡ position_of bytes index
    → record (token_in bytes (start_at bytes (index / 64) / 2 ^ 32) (head_offset bytes (index / 64)) (index % 64)) {
      dst_line = position / 2 ^ 32;
      dst_col = position % 2 ^ 32;
    }
    ≡ compiled_token bytes index
with_position bytes index position is =
    let small = column_small bytes index in
    rest_of_token bytes index (position / 2 ^ 32) (position % 2 ^ 32)
    ∙ with_same (compiled_token bytes index) (position / 2 ^ 32) (position % 2 ^ 32) (omega arith) (omega arith)

-- ---- where the search in the starts, then in a block, ends

module _ (bytes : List ℕ) (position : ℕ) where
  -- no block starts before the position
  pub first_at_front : (0 < block_count bytes → position ≤ start_at bytes 0) → IsFirstAt bytes position 0
  first_at_front from = record {
    within = omega arith;
    before = λ l. absurd (omega arith);
    from = λ l. rw (position_of-first bytes 0) (from (omega arith));
  }

  module _ (block size place : ℕ) (inside : block < block_count bytes)
      (whole : size ≡ min (token_count bytes - 64 * block) 64) (within : place ≤ size) (later : 0 < place)
      (starts : start_at bytes block < position)
      (next : block + 1 < block_count bytes → position ≤ start_at bytes (block + 1))
      (before : 1 < place
      → position_in bytes (start_at bytes block / 2 ^ 32) (head_offset bytes block) (place - 1) < position)
      (from : place < size
      → position ≤ position_in bytes (start_at bytes block / 2 ^ 32) (head_offset bytes block) place) where
    ahead : position_of bytes (64 * block + place - 1) < position
    ahead = elim (cases_lt 1 place) [
      | inl more ↦
          let back : 64 * block + place - 1 ≡ 64 * block + (place - 1) = omega arith in
          rw back (rw (placed_at bytes block (place - 1) (omega arith) (omega arith)) (before more))
      | inr one ↦
          let back : 64 * block + place - 1 ≡ 64 * block = omega arith in
          rw back (rw (position_of-first bytes block) starts)
    ]

    pub first_at_place : IsFirstAt bytes position (64 * block + place)
    first_at_place = record {
      within = omega arith;
      before = λ l. ahead;
      from = λ l. elim (cases_lt place size) [
        | inl here ↦ rw (placed_at bytes block place later (omega arith)) (from here)
        | inr end ↦
            let after : 64 * block + place ≡ 64 * (block + 1) = omega arith in
            let there : block + 1 < block_count bytes = omega arith in
            rw after (rw (position_of-first bytes (block + 1)) (next there))
      ];
    }

  -- the positions that the search in a block returns
  module _ (block size place : ℕ) (whole : size ≡ min (token_count bytes - 64 * block) 64) (within : place ≤ size)
      (later : 0 < place) where
    pub ahead_at : (ahead : ℕ) → (place ≡ 1 → ahead ≡ start_at bytes block)
        → (1 < place
        → IsNear (position_in bytes (start_at bytes block / 2 ^ 32) (head_offset bytes block) (place - 1))
        (position / 2 ^ 32) ahead)
        → IsNear (position_of bytes (64 * block + place - 1)) (position / 2 ^ 32) ahead
    ahead_at ahead first more = elim (cases_eq place 1) [
      | inl one ↦
          let back : 64 * block + place - 1 ≡ 64 * block = omega arith in
          near_same (first one ∙ sym (ap (position_of bytes) back ∙ position_of-first bytes block))
      | inr other ↦
          let back : 64 * block + place - 1 ≡ 64 * block + (place - 1) = omega arith in
          subst (λ n. IsNear n (position / 2 ^ 32) ahead)
          (sym (ap (position_of bytes) back ∙ placed_at bytes block (place - 1) (omega arith) (omega arith)))
          (more (omega arith))
    ]

    pub next_there : (next : ℕ)
        → (place < size
        → IsNear (position_in bytes (start_at bytes block / 2 ^ 32) (head_offset bytes block) place)
        (position / 2 ^ 32) next)
        → (place ≡ size → block + 1 < block_count bytes → next ≡ start_at bytes (block + 1))
        → 64 * block + place < token_count bytes
        → IsNear (position_of bytes (64 * block + place)) (position / 2 ^ 32) next
    next_there next here end l = elim (cases_lt place size) [
      | inl less ↦
          subst (λ n. IsNear n (position / 2 ^ 32) next) (sym (placed_at bytes block place later (omega arith)))
          (here less)
      | inr all ↦
          let after : 64 * block + place ≡ 64 * (block + 1) = omega arith in
          near_same (end (omega arith) (omega arith)
          ∙ sym (ap (position_of bytes) after ∙ position_of-first bytes (block + 1)))
    ]

-- ---- the first token at or after a position determines the closest one

module _ (bytes : List ℕ) (p : ℕ × ℕ) (index : ℕ) (up : IsInOrder bytes) (small : p.1 < 2 ^ 32)
    (first : IsFirstAt bytes (position_number p) index) where
  at : (k : ℕ) (d : RawToken) → k < token_count bytes → get_or (compiled_tokens bytes) k d ≡ compiled_token bytes k
  at k d l = get_or-compiled_tokens bytes k d l

  many : length (compiled_tokens bytes) ≡ token_count bytes
  many = length-compiled_tokens bytes

  bracket : IsBracket destination position_cmp (compiled_tokens bytes) p index index
  bracket = record {
    below = λ d l. rw (at (index - 1) d (let w = first.within in omega arith))
        (less_by_number _ _ p.0 p.1 (column_small bytes (index - 1)) small (first.before l));
    above = λ d l. rw (at index d (omega (arith, many)))
        (not_less_by_number _ _ p.0 p.1 (column_small bytes index) small (first.from (omega (arith, many))));
  }

  pub found_at : index < token_count bytes → position_of bytes index ≡ position_number p
      → Some (index, compiled_token bytes index) ≡ closest_token (compiled_tokens bytes) p
  found_at l same =
      closest-hit position_cmp_total destination (compiled_tokens bytes) p index up.tokens bracket
      (compiled_token bytes index) (omega (arith, many)) (sym (at index _ l))
      (same_by_number _ _ p.0 p.1 (column_small bytes index) small same)

  apart : (index < token_count bytes → position_of bytes index ≡ position_number p → ⊥)
      → IsApart destination position_cmp (compiled_tokens bytes) p index
  apart other d l =
      let inside : index < token_count bytes = omega (arith, many) in
      rw (at index d inside) (apart_by_number _ _ p.0 p.1 (other inside))

  pub found_before : 0 < index → (index < token_count bytes → position_of bytes index ≡ position_number p → ⊥)
      → Some (index - 1, compiled_token bytes (index - 1)) ≡ closest_token (compiled_tokens bytes) p
  found_before some other =
      let w = first.within in
      closest-miss position_cmp_total destination (compiled_tokens bytes) p index up.tokens bracket
      (compiled_token bytes (index - 1)) some (omega (arith, many)) (sym (at (index - 1) _ (omega arith))) (apart other)

  pub found_none : index ≡ 0 → (index < token_count bytes → position_of bytes index ≡ position_number p → ⊥)
      → None ≡ closest_token (compiled_tokens bytes) p
  found_none front other =
      closest-none position_cmp_total destination (compiled_tokens bytes) p index up.tokens bracket front (apart other)

-- a fact on a block, by the values of its parts
pub by_parts : (P : List ℕ → ℕ → ℕ → Type 0) (bytes bytes' : List ℕ) (start start' head head' : ℕ) → bytes ≡ bytes'
    → start ≡ start' → head ≡ head' → P bytes start head → P bytes' start' head'
by_parts P bytes bytes' start start' head head' a b c is =
    subst (λ x. P bytes' start' x) c (subst (λ x. P bytes' x head) b (subst (λ x. P x start head) a is))
