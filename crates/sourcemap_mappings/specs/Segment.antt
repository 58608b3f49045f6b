-- Segments: their numbers, the token of a segment, and its first error. A line is split into parts at each `,`. Each
-- part that is not empty is a segment, which has one token.
use Rattle.std.specs.Prelude.{ℕ, ◌%◌, ◌^◌, ℤ, pos, unsigned_abs, List, length, slice_get, sum_by, Option, Some, None}
use Rattle.std.specs.Prelude.{Bool, not, ◌&&◌, ◌||◌, ◌==◌, nat_lt, nat_le, min, if◌then◌else◌}
use Rattle.std.specs.Option.{option_map_or}
use Rattle.std.specs.List.{slice_split}
use Rattle.std.specs.Int.{int_rem_euclid}
use Rattle.sourcemap_tokens.specs.declared.tokens.RawToken.{RawToken}
use Rattle.sourcemap_errors.specs.declared.errors.Error.{Error}
use Rattle.sourcemap_errors.specs.declared.errors.Error.TheVariants.{BadSegmentSize, BadSourceReference}
use Rattle.sourcemap_errors.specs.declared.errors.Error.TheVariants.{BadNameReference}
use Rattle.sourcemap_vlq.specs.Bits.{bit_of}
use Rattle.sourcemap_tokens.specs.Tokens.{no_id}

-- the separator of the parts of a line
abbrev pub comma : ℕ
comma = 44

-- the separator of lines
abbrev pub semicolon : ℕ
semicolon = 59

-- the parts of a line, which is split at each `,`
abbrev pub parts_of : List ℕ → List (List ℕ)
parts_of line = slice_split (λ b. b == comma) line

-- how many sources and how many names a map has
pub record Counts : Type 0 where
  pub sources : ℕ
  pub names : ℕ

-- a segment: its index among the parts of its line, where empty parts count too, and its numbers
pub record Segment : Type 0 where
  pub index : ℕ
  pub numbers : List ℤ

-- the number at index `k` of a segment, modulo 2^32; 0 if the segment has no number at this index
abbrev pub step : ℕ → Segment → ℕ
step k s = option_map_or (λ z. unsigned_abs (int_rem_euclid z (pos (2 ^ 32)))) (slice_get s.numbers k) 0

-- the sum, modulo 2^32, of the numbers at index `k` of some segments
abbrev pub sum_at : ℕ → List Segment → ℕ
sum_at k segments = sum_by (step k) segments % 2 ^ 32

abbrev pub has_number : ℕ → Segment → Bool
has_number k s = nat_lt k (length s.numbers)

-- a field of the token of segment `s`: the sum, modulo 2^32, of the numbers at index `k` of all segments up to and
-- including `s`, or `no_id` if `s` has no number at this index
abbrev pub field : ℕ → List Segment → Segment → ℕ
field k all s = if has_number k s then sum_at k all else no_id

-- the token of segment s on line n. `here` are the segments of the line up to and including s, `all` are those of the
-- whole text up to and including s
abbrev pub token_of : ℕ → List ℕ → List Segment → List Segment → Segment → RawToken
token_of n bits here all s = record {
  dst_line = n;
  dst_col = sum_at 0 here;
  src_line = field 2 all s;
  src_col = field 3 all s;
  src_id = field 1 all s;
  name_id = field 4 all s;
  is_range = bit_of bits s.index;
}

-- Errors of one segment.

abbrev pub is_size : ℕ → Bool
is_size size = (size == 1) || (size == 4) || (size == 5)

-- the first error of the numbers of segment s, or `None` if they are valid. `all` are the segments of the text up to
-- and including s
abbrev pub segment_error : Counts → List Segment → Segment → Option Error
segment_error counts all s =
    if not (is_size (length s.numbers)) then Some (BadSegmentSize (min (length s.numbers) 4294967295))
    else if has_number 1 s && nat_le counts.sources (sum_at 1 all) then Some (BadSourceReference (sum_at 1 all))
    else if has_number 4 s && nat_le counts.names (sum_at 4 all) then Some (BadNameReference (sum_at 4 all))
    else None
