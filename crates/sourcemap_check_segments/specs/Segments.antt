-- The text `mappings` by ECMA-426: lines, segments, and the numbers of a segment.
use Rattle.std.specs.Prelude.{ℕ, ◌+◌, ◌*◌, ◌^◌, ◌==◌, ◌&&◌, ◌||◌, Bool, false, not, is_none, nat_le, nat_lt}
use Rattle.std.specs.Prelude.{if◌then◌else◌, List, [], ◌∷◌, map, length, slice_index, ℤ, pos, neg_ℤ, ◌+ℤ◌}
use Rattle.std.specs.Option.{option_map_or}
use Rattle.std.specs.List.{list_any, slice_split, flat_map}
use Rattle.sourcemap_vlq.specs.Vlq.{digit_value, data_of, number_of}

-- the separator of the segments of a line
abbrev pub comma : ℕ
comma = 44

-- the separator of lines
abbrev pub semicolon : ℕ
semicolon = 59

-- the segments of a line. An empty line has none. In any other line a segment can be empty: `,` is two empty segments
abbrev pub segments_of : List ℕ → List (List ℕ)
segments_of [] = []
segments_of (c ∷ cs) = slice_split (λ b. b == comma) (c ∷ cs)

-- the lines of a text, each as the list of its segments
abbrev pub page_of : List ℕ → List (List (List ℕ))
page_of text = map segments_of (slice_split (λ b. b == semicolon) text)

-- a byte that is no digit of base64
abbrev pub is_foreign : ℕ → Bool
is_foreign c = is_none (digit_value c)

-- a digit with the continuation bit: another digit of the same number follows
abbrev pub continues : ℕ → Bool
continues c = option_map_or (λ v. nat_le 32 v) (digit_value c) false

-- a digit of a number whose later digits are the first of `raws`; without a later digit there is no number
abbrev pub before_raws : ℕ → List ℕ → List ℕ
before_raws low [] = []
before_raws low (raw ∷ raws) = (low + 32 * raw) ∷ raws

-- the raw values of the numbers of a segment. The digits of a number come least significant first
abbrev pub raws_of : List ℕ → List ℕ
raws_of [] = []
raws_of (c ∷ cs) = if continues c then before_raws (data_of c) (raws_of cs) else data_of c ∷ raws_of cs

-- the number of a raw value: its lowest bit is the sign. A zero with this sign is -2147483648
abbrev pub value_of : ℕ → ℤ
value_of raw = if raw == 1 then neg_ℤ (pos (2 ^ 31)) else number_of raw

-- a number does not fit 32 bits: its absolute value is 2147483648 or more
abbrev pub is_large : ℕ → Bool
is_large raw = nat_le (2 ^ 32) raw

abbrev pub has_foreign : List ℕ → Bool
has_foreign segment = list_any is_foreign segment

-- a segment ends within a number: its last byte has the continuation bit
abbrev pub is_cut : List ℕ → Bool
is_cut [] = false
is_cut (c ∷ []) = continues c
is_cut (c ∷ d ∷ cs) = is_cut (d ∷ cs)

-- a segment consists of numbers
abbrev pub is_whole : List ℕ → Bool
is_whole segment = not (has_foreign segment) && not (is_cut segment)

-- how many numbers a segment can have
abbrev pub is_count : ℕ → Bool
is_count count = (count == 1) || (count == 4) || (count == 5)

abbrev pub has_large : List ℕ → Bool
has_large segment = list_any is_large (raws_of segment)

-- a segment consists of 1, 4 or 5 numbers of 32 bits
abbrev pub is_sound : List ℕ → Bool
is_sound segment = is_whole segment && is_count (length (raws_of segment)) && not (has_large segment)

-- a sound segment with a number at index k. The numbers are generated column, source, original line, original column
-- and name
abbrev pub has_field : ℕ → List ℕ → Bool
has_field k segment = is_sound segment && nat_lt k (length (raws_of segment))

-- the number at index k, as a difference. Without this number, and in a segment that is not sound, it is 0
abbrev pub delta : ℕ → List ℕ → ℤ
delta k segment = if is_sound segment then value_of (slice_index (raws_of segment) k) else pos 0

-- the sum of the numbers at index k of some segments
abbrev pub sum_at : ℕ → List (List ℕ) → ℤ
sum_at k [] = pos 0
sum_at k (segment ∷ segments) = delta k segment +ℤ sum_at k segments

-- the segments of some lines
abbrev pub joined : List (List (List ℕ)) → List (List ℕ)
joined lines = flat_map (λ line. line) lines
