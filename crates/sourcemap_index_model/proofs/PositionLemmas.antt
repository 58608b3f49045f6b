-- Positions relative to the offset of a section, and positions in the index map.
use Rattle.std.proofs.Common.{◌≡◌, ℕ, ◌+◌, ◌-◌, ◌≤◌, ◌==◌, if◌then◌else◌, true, false, arith}
use Rattle.std.specs.Ordering.{is_lt, is_eq}
use Rattle.std.proofs.lemmas.Bool.Decides.{nat_tests}
use Rattle.sourcemap_tokens.specs.Tokens.{position_cmp}
use Rattle.sourcemap_index_model.specs.FlatList.{absolute_position, IsBefore}
use Rattle.sourcemap_index_model.specs.Meaning.{relative_position}

pub before_before : (p q r : ℕ × ℕ) → IsBefore p q → IsBefore q r → IsBefore p r
before_before (a, b) (c, d) (e, f) h k = grind (arith, nat_tests)

pub not_after : (p q : ℕ × ℕ) → IsBefore p q → is_lt (position_cmp q p) ≡ false
not_after (a, b) (c, d) h = grind (arith, nat_tests)

pub not_there : (p q : ℕ × ℕ) → IsBefore p q → is_eq (position_cmp p q) ≡ false
not_there (a, b) (c, d) h = grind (arith, nat_tests)

pub not_here : (p q : ℕ × ℕ) → IsBefore p q → is_eq (position_cmp q p) ≡ false
not_here (a, b) (c, d) h = grind (arith, nat_tests)

pub before_reached : (p q r : ℕ × ℕ) → IsBefore p q → is_lt (position_cmp r q) ≡ false → IsBefore p r
before_reached (a, b) (c, d) (e, f) h k = grind (arith, nat_tests)

pub reached_here : (p q : ℕ × ℕ) → is_eq (position_cmp q p) ≡ true → is_lt (position_cmp p q) ≡ false
reached_here (a, b) (c, d) h = grind (arith, nat_tests)

pub reached_or : (p q : ℕ × ℕ) → is_lt (position_cmp p q) ≡ false → is_eq (position_cmp q p) ≡ false → IsBefore q p
reached_or (a, b) (c, d) h k = grind (arith, nat_tests)

-- what is before the offset is before each position of the section
pub before_absolute : (p o q : ℕ × ℕ) → IsBefore p o → IsBefore p (absolute_position o q)
before_absolute (a, b) (c, d) (e, f) h = grind (arith, nat_tests)

-- moving by an offset keeps the order
pub absolute_lt : (o p q : ℕ × ℕ)
    → is_lt (position_cmp (absolute_position o p) (absolute_position o q)) ≡ is_lt (position_cmp p q)
absolute_lt (a, b) (c, d) (e, f) = grind (arith, nat_tests)

pub absolute_eq : (o p q : ℕ × ℕ)
    → is_eq (position_cmp (absolute_position o p) (absolute_position o q)) ≡ is_eq (position_cmp p q)
absolute_eq (a, b) (c, d) (e, f) = grind (arith, nat_tests)

-- a line at or after the line of the offset, made relative and then absolute again, is unchanged
absolute_line : (a c : ℕ) → a ≤ c → c - a + a ≡ c
absolute_line a c h = omega arith

absolute_column : (a b c d : ℕ) → is_lt (position_cmp (c, d) (a, b)) ≡ false
    → (if c - a == 0 then (if c == a then d - b else d) + b else (if c == a then d - b else d)) ≡ d
absolute_column a b c d h = grind (arith, nat_tests)

line_reached : (a b c d : ℕ) → is_lt (position_cmp (c, d) (a, b)) ≡ false → a ≤ c
line_reached a b c d h = grind (arith, nat_tests)

pub absolute_relative : (o p : ℕ × ℕ) → is_lt (position_cmp p o) ≡ false
    → absolute_position o (relative_position o p) ≡ p
absolute_relative (a, b) (c, d) h = λ i. (absolute_line a c (line_reached a b c d h) i, absolute_column a b c d h i)

-- let `p` be a position in the index map that is not before the offset `o` of a section, and let `q` be a position
-- relative to `o`. The column distance from `q` to `p` is the same in the index map as relative to `o`. The distance
-- counts as 0 if `q` is on another line or is after `p`
pub distance_from_section : (o p q : ℕ × ℕ) → is_lt (position_cmp p o) ≡ false
    → (if (absolute_position o q).0 == p.0 then p.1 - (absolute_position o q).1 else 0)
    ≡ (if q.0 == (relative_position o p).0 then (relative_position o p).1 - q.1 else 0)
distance_from_section (a, b) (c, d) (e, f) h = grind (arith, nat_tests)
