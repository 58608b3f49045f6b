-- The text `rangeMappings` says for each line of `mappings` which segments are range mappings. This library reads a
-- format of bits; a newer proposal has one of numbers.
use Rattle.std.specs.Prelude.{◌≡◌, ℕ, ◌+◌, ◌-◌, ◌^◌, ◌==◌, ◌&&◌, ◌||◌, Bool, true, false, not, is_none, nat_lt, min}
use Rattle.std.specs.Prelude.{if◌then◌else◌, List, [], ◌∷◌, length, map, sum, slice_index, Option, Some, None}
use Rattle.std.specs.Option.{option_map_or}
use Rattle.std.specs.List.{slice_split}
use Rattle.sourcemap_vlq.specs.Vlq.{digit_value}
use Rattle.sourcemap_vlq.specs.Bits.{first_non_digit}
use Rattle.sourcemap_check_segments.specs.Segments.{page_of, raws_of, is_cut, semicolon}
use Rattle.sourcemap_check_segments.specs.Steps.{later_raws}
use Rattle.sourcemap_check_order.specs.declared.ranges.Format.{Format}
use Rattle.sourcemap_check_order.specs.declared.ranges.Format.TheVariants.{Bits, Numbers}
use Rattle.sourcemap_check_order.specs.declared.ranges.Distances.{Distances}
use Rattle.sourcemap_check_order.specs.declared.ranges.RangeDoubt.{RangeDoubt}
use Rattle.sourcemap_check_order.specs.declared.ranges.RangeDoubt.TheVariants.{OtherFormat, NoFormat}

-- a byte is a digit, which has the bits of the next six segments, lowest first; if fewer are left, no bit past them is set
abbrev pub digit_fits : (left : ℕ) → ℕ → Bool
digit_fits left c = option_map_or (λ v. nat_lt v (2 ^ min left 6)) (digit_value c) false

-- the line consists of digits, whose bits are set only for some of the first `count` segments
abbrev pub fits_bits : (count : ℕ) → (line : List ℕ) → Bool
fits_bits count [] = true
fits_bits count (c ∷ cs) = digit_fits count c && fits_bits (count - 6) cs

-- the line consists of numbers without sign. Each is the distance of a segment from the one that the number before it
-- leads to, the first from the first segment; the last leads to one of the first `count` segments
abbrev pub fits_numbers : (count : ℕ) → (line : List ℕ) → Bool
fits_numbers count line =
    (is_none (first_non_digit line) && not (is_cut line))
    && ((length line == 0) || nat_lt (sum (raws_of line)) count)

abbrev pub line_fits : Format → (count : ℕ) → (line : List ℕ) → Bool
line_fits Bits count line = fits_bits count line
line_fits Numbers count line = fits_numbers count line

-- the lines from line n on fit so many segments of each line; past the end there are none
abbrev pub lines_fit : Format → (counts : List ℕ) → (n : ℕ) → (lines : List (List ℕ)) → Bool
lines_fit format counts n [] = true
lines_fit format counts n (line ∷ lines) =
    line_fits format (slice_index counts n) line && lines_fit format counts (n + 1) lines

-- the number of segments of each line of the text `mappings`
abbrev pub segment_counts : List ℕ → List ℕ
segment_counts mappings = map length (page_of mappings)

abbrev pub text_fits : Format → (mappings ranges : List ℕ) → Bool
text_fits format mappings ranges =
    lines_fit format (segment_counts mappings) 0 (slice_split (λ b. b == semicolon) ranges)

-- a text that does not fit as bits fits as numbers, or not at all
abbrev pub range_doubt : (mappings ranges : List ℕ) → Option RangeDoubt
range_doubt mappings ranges =
    if text_fits Bits mappings ranges then None
    else if text_fits Numbers mappings ranges then Some OtherFormat
    else Some NoFormat

-- `read` describes the numbers of these bytes: the first one, and the sum of the others
pub record AreDistances (bytes : List ℕ) (read : Distances) : Type 0 where
  pub has_number : read.has_number ≡ not (length (raws_of bytes) == 0)
  pub first : read.first ≡ min (slice_index (raws_of bytes) 0) 18446744073709551615
  pub later : read.later ≡ min (sum (later_raws (raws_of bytes))) 18446744073709551615
