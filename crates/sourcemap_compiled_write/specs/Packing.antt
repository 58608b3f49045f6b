-- The numbers that stand for the fields of a block of tokens, and how they are packed in so many bits each.
use Rattle.std.specs.Prelude.{ℕ, ◌+◌, ◌-◌, ◌*◌, ◌%◌, ◌^◌, min, max, if◌then◌else◌, List, [], ◌∷◌, ◌++◌, length, map}
use Rattle.std.specs.Prelude.{replicate, slice_index, fold}
use Rattle.std.specs.Int.Count.{count_leading_zeros}
use Rattle.byteorder.specs.Endian.{little_bytes}
use Rattle.sourcemap_tokens.specs.declared.tokens.RawToken.{RawToken}

-- the numbers as one number, `width` bits for each, the first in the lowest bits
abbrev pub packed : (width : ℕ) → List ℕ → ℕ
packed width [] = 0
packed width (x ∷ xs) = x + 2 ^ width * packed width xs

-- the bytes of 64 packed numbers
abbrev pub field_bytes : (width : ℕ) → List ℕ → List ℕ
field_bytes width numbers = little_bytes (8 * width) (packed width numbers)

-- the fields of a token, in the order of the format
abbrev pub fields_of : RawToken → List ℕ
fields_of t =
    t.dst_line ∷ t.dst_col ∷ t.src_id ∷ t.src_line ∷ t.src_col ∷ t.name_id ∷ (if t.is_range then 1 else 0) ∷ []

-- the values of a field of tokens
abbrev pub token_values : List RawToken → (field : ℕ) → List ℕ
token_values tokens field = map (λ t. slice_index (fields_of t) field) tokens

-- the number that is packed for a value: value minus base, modulo 2^32
abbrev pub number_of : (base value : ℕ) → ℕ
number_of base value = (value + (2 ^ 32 - base)) % 2 ^ 32

-- numbers, and zeros up to 64 numbers
abbrev pub padded : List ℕ → List ℕ
padded numbers = numbers ++ replicate (64 - length numbers) 0

-- the base of values: the least of them, where 4294967295 is less than 0. So 4294967295, which is no id, and small ids
-- have small numbers
abbrev pub base_of : List ℕ → ℕ
base_of values = (fold (λ least value. min least ((value + 1) % 2 ^ 32)) 4294967295 values + 4294967295) % 2 ^ 32

-- the width of numbers: how many bits the greatest has
abbrev pub width_of : List ℕ → ℕ
width_of numbers = 32 - count_leading_zeros 32 (fold max 0 numbers)
