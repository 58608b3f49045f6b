-- The steps of a check: the numbers of a segment, and the sums up to it.
use Rattle.std.specs.Prelude.{◌≡◌, ℕ, ◌*◌, min, List, [], ◌∷◌, length, slice_index, Option, ℤ, pos, neg_ℤ, ◌≤ℤ◌}
use Rattle.std.specs.List.{list_any, slice_split}
use Rattle.std.specs.Option.{option_map_or}
use Rattle.std.specs.Prelude.{◌==◌, ◌+◌}
use denote.Ref.{Bor}
use Rattle.sourcemap_check_segments.specs.declared.segment.Raws.{Raws}
use Rattle.sourcemap_check_segments.specs.declared.segment.Segment.{Segment}
use Rattle.sourcemap_check_segments.specs.declared.sums.Sums.{Sums}
use Rattle.sourcemap_check_segments.specs.declared.sums.Limits.{Limits}
use Rattle.sourcemap_check_segments.specs.Rules.{Counts}
use Rattle.sourcemap_check_segments.specs.Segments.{is_large, has_foreign, is_cut, has_large, raws_of, is_sound, delta}
use Rattle.sourcemap_check_segments.specs.Segments.{sum_at}

-- a raw value, or 2^32 if it is larger
abbrev pub small_raw : List ℕ → ℕ → ℕ
small_raw raws k = min (slice_index raws k) 4294967296

-- the first five raw values, 0 for each that is missing
abbrev pub first_five : List ℕ → List ℕ
first_five raws = small_raw raws 0 ∷ small_raw raws 1 ∷ small_raw raws 2 ∷ small_raw raws 3 ∷ small_raw raws 4 ∷ []

abbrev pub later_raws : List ℕ → List ℕ
later_raws [] = []
later_raws (raw ∷ raws) = raws

-- `read` describes these raw values
pub record Describes (raws : List ℕ) (read : Raws) : Type 0 where
  pub count : read.count ≡ min (length raws) 6
  pub large_later : read.large_later ≡ list_any is_large (later_raws raws)
  pub five : read.five ≡ first_five raws

-- `read` describes these bytes of a segment
pub record DescribesBytes (bytes : List ℕ) (read : Raws) : Type 0 where
  pub foreign : read.foreign ≡ has_foreign bytes
  pub raws : Describes (raws_of bytes) read

-- `read` describes a segment
pub record IsSegment (bytes : List ℕ) (read : Segment) : Type 0 where
  pub foreign : read.foreign ≡ has_foreign bytes
  pub cut : read.cut ≡ is_cut bytes
  pub count : read.count ≡ min (length (raws_of bytes)) 6
  pub large : read.large ≡ has_large bytes
  pub sound : read.sound ≡ is_sound bytes
  pub column : read.column ≡ delta 0 bytes
  pub source : read.source ≡ delta 1 bytes
  pub line : read.line ≡ delta 2 bytes
  pub source_column : read.source_column ≡ delta 3 bytes
  pub name : read.name ≡ delta 4 bytes

-- the sums that run through the text, over these segments
pub record AreTextSums (text : List (List ℕ)) (sums : Sums) : Type 0 where
  pub source : sums.source ≡ sum_at 1 text
  pub line : sums.line ≡ sum_at 2 text
  pub source_column : sums.source_column ≡ sum_at 3 text
  pub name : sums.name ≡ sum_at 4 text

-- all sums: of columns over the segments `line`, the others over `text`
pub record AreSums (text line : List (List ℕ)) (sums : Sums) : Type 0 where
  pub column : sums.column ≡ sum_at 0 line
  pub through : AreTextSums text sums

-- a sum of so many numbers of 64 bits
pub record IsWithin (count : ℕ) (sum : ℤ) : Type 0 where
  pub low : neg_ℤ (pos (count * 9223372036854775808)) ≤ℤ sum
  pub high : sum ≤ℤ pos (count * 9223372036854775808)

-- no sum is larger than that of as many numbers can be
pub record AreWithin (sums : Sums) : Type 0 where
  pub column : IsWithin sums.count sums.column
  pub source : IsWithin sums.count sums.source
  pub line : IsWithin sums.count sums.line
  pub source_column : IsWithin sums.count sums.source_column
  pub name : IsWithin sums.count sums.name

-- the parts of the rest of a text, or none if there is no rest
abbrev pub parts_left : ℕ → Option (Bor (List ℕ)) → List (List ℕ)
parts_left separator rest = option_map_or (λ text. slice_split (λ b. b == separator) text.now) rest []

-- the bytes that are left: one for each part, and those of the parts
abbrev pub bytes_left : Option (Bor (List ℕ)) → ℕ
bytes_left rest = option_map_or (λ text. length text.now + 1) rest 0

-- the counts of sources and names in `limits`
abbrev pub counts_of : Limits → Counts
counts_of limits = record { sources = limits.sources; names = limits.names }
