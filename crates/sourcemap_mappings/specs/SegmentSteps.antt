-- The steps of decoding a segment: its numbers, its error, and the sums of the numbers up to the end of the segment.
use Rattle.std.specs.Prelude.{◌≡◌, ℕ, ◌^◌, ◌<◌, ℤ, pos, unsigned_abs, List, [], ◌∷◌, ◌++◌, length, Option, Some, None}
use Rattle.std.specs.Prelude.{◌==◌, min, if◌then◌else◌, ◌≢◌, IfSome, slice_index}
use Rattle.std.specs.Option.{option_map_or}
use Rattle.std.specs.Int.{int_rem_euclid}
use Rattle.sourcemap_errors.specs.declared.errors.Error.{Error}
use Rattle.sourcemap_errors.specs.declared.errors.Error.TheVariants.{InvalidBase64, VlqLeftover}
use Rattle.sourcemap_vlq.specs.Vlq.{Reads, HasError, BeginsWith}
use denote.Ref.{Bor}
use Rattle.sourcemap_mappings.specs.declared.segment.Sums.{Sums}
use Rattle.sourcemap_mappings.specs.declared.segment.Numbers.{Numbers}
use Rattle.sourcemap_mappings.specs.declared.segment.Limits.{Limits}
use Rattle.sourcemap_mappings.specs.Segment.{Counts, Segment, step, sum_at, comma, parts_of}

-- `read` holds the count of these numbers, or 4294967295 if there are more, and the first five of them modulo 2^32,
-- with 0 for each missing number
pub record AreSteps (numbers : List ℤ) (read : Numbers) : Type 0 where
  pub count : read.count ≡ min (length numbers) 4294967295
  pub five : length read.steps ≡ 5
  pub each : (k : ℕ) → k < 5 → slice_index read.steps k ≡ step k (record { index = 0; numbers = numbers })

-- `read` holds the numbers of a line's first part. `tail` is the text after the `,` that ends this part, or `None` if
-- the line has no other part
pub record HasFirstPart (line : List ℕ) (read : Numbers) (tail : Option (Bor (List ℕ))) : Type 0 where
  pub part : List ℕ
  pub numbers : List ℤ
  pub split : parts_of line ≡ part ∷ option_map_or (λ rest. parts_of rest.now) tail []
  pub shorter : IfSome tail (λ rest. length rest.now < length line)
  pub reads : Reads part numbers
  pub steps : AreSteps numbers read

-- a part ends where `rest` begins: `rest` is empty, or it is a `,` followed by `tail`
abbrev pub EndsPart : List ℕ → Option (Bor (List ℕ)) → Type 0
EndsPart rest None = rest ≡ []
EndsPart rest (Some tail) = rest ≡ comma ∷ tail.now

-- a text is the digits of a number, followed by `rest`; `s` is the number modulo 2^32
abbrev pub BeginsWithStep : List ℕ → ℕ → List ℕ → Type 0
BeginsWithStep text s rest = (n : ℤ) × BeginsWith text n rest × (s ≡ unsigned_abs (int_rem_euclid n (pos (2 ^ 32))))

-- the digits of a line's first part have this error
pub record HasPartError (line : List ℕ) (e : Error) : Type 0 where
  pub part : List ℕ
  pub parts : List (List ℕ)
  pub split : parts_of line ≡ part ∷ parts
  pub some : part ≢ []
  pub error : HasError part e

-- the error of a part, computed from the error of decoding a number of the part. The number is decoded from the rest of
-- the line, which may contain more parts. So the error `InvalidBase64` with `,` means that the part ends within the
-- number. This error becomes `VlqLeftover`. Every other error stays the same
abbrev pub error_in_part : Error → Error
error_in_part (InvalidBase64 c) = if c == comma then VlqLeftover else InvalidBase64 c
error_in_part e = e

-- `sums` holds the sums of source, original line, original column and name over these segments. These four sums do not
-- restart on each line
pub record AreTextSums (segments : List Segment) (sums : Sums) : Type 0 where
  pub source : sums.source ≡ sum_at 1 segments
  pub line : sums.line ≡ sum_at 2 segments
  pub source_column : sums.source_column ≡ sum_at 3 segments
  pub name : sums.name ≡ sum_at 4 segments

-- `sums` holds all five sums. The generated column is summed over `here`, the segments of the current line. The other
-- four values are summed over `before`, the segments of the earlier lines, and over `here`
pub record AreSums (before here : List Segment) (sums : Sums) : Type 0 where
  pub column : sums.column ≡ sum_at 0 here
  pub text : AreTextSums (before ++ here) sums

-- a part with this index in its line decodes to one or more numbers. `count` is how many numbers there are, or
-- 4294967295 if there are more. `sums` holds the sums after the segments `before` and `here` and this part
pub record IsSegmentRead (index : ℕ) (before here : List Segment) (part : List ℕ) (numbers : List ℤ) (count : ℕ)
    (sums : Sums) : Type 0 where
  pub some : 0 < length numbers
  pub count_is : count ≡ min (length numbers) 4294967295
  pub reads : Reads part numbers
  pub sums_to : AreSums before (here ++ record { index = index; numbers = numbers } ∷ []) sums

-- the counts of sources and names in `limits`
abbrev pub counts_of : Limits → Counts
counts_of limits = record { sources = limits.sources; names = limits.names }
