-- The tokens of a compiled map. A block has 64 tokens, the last block perhaps fewer. In the body of a block each field
-- of a token is an array of 64 numbers of so many bits, one array after the other. The head of the block says where the
-- body starts, and for each field the base and the width of its numbers. A value is base plus number, modulo 2^32.
use Rattle.std.specs.Prelude.{ℕ, zero, suc, ◌+◌, ◌*◌, ◌/◌, ◌%◌, ◌^◌, ◌==◌, nat_lt, if◌then◌else◌, List, map}
use Rattle.std.specs.Prelude.{slice_index}
use Rattle.std.specs.List.{range_with_len}
use Rattle.sourcemap_tokens.specs.declared.tokens.RawToken.{RawToken}
use Rattle.sourcemap_tokens.specs.Tokens.{destination}
use Rattle.sourcemap_compiled.specs.Numbers.{bits_at, position_number, u32_at, u64_at}
use Rattle.sourcemap_compiled.specs.Layout.{head_offset, start_offset, token_count}

-- the fields: generated line and column, source id, original line and column, name id, whether it is a range token,
-- and the scope
abbrev pub line_field : ℕ
line_field = 0

abbrev pub column_field : ℕ
column_field = 1

abbrev pub source_field : ℕ
source_field = 2

abbrev pub source_line_field : ℕ
source_line_field = 3

abbrev pub source_column_field : ℕ
source_column_field = 4

abbrev pub name_field : ℕ
name_field = 5

abbrev pub range_field : ℕ
range_field = 6

abbrev pub scope_field : ℕ
scope_field = 7

-- the width of a field: the low six bits of a byte of the head
abbrev pub width_at : List ℕ → (head field : ℕ) → ℕ
width_at bytes head field = slice_index bytes (head + 24 + field) % 64

-- the sum of the widths of the fields before this one
unfoldable pub widths_before : List ℕ → (head field : ℕ) → ℕ
widths_before bytes head zero = 0
widths_before bytes head (suc field) = widths_before bytes head field + width_at bytes head field

-- the number that a field has at a place in its block. The head begins with the start of the body
unfoldable pub packed_at : List ℕ → (head field place : ℕ) → ℕ
packed_at bytes head field place =
    bits_at bytes (u32_at bytes head + 8 * widths_before bytes head field) (place * width_at bytes head field)
    (width_at bytes head field)

-- the value that a field has at a place in its block
abbrev pub value_at : List ℕ → (base head field place : ℕ) → ℕ
value_at bytes base head field place = (base + packed_at bytes head field place) % 2 ^ 32

-- the base of a field, other than the line, the range flag and the scope
abbrev pub base_at : List ℕ → (head field : ℕ) → ℕ
base_at bytes head field = u32_at bytes (head + 4 * field)

-- where a block starts: the generated position of its first token, line times 2^32 plus column
abbrev pub start_at : List ℕ → ℕ → ℕ
start_at bytes block = u64_at bytes (start_offset bytes block)

-- the value of a field that has a base in the head
abbrev pub field_at : List ℕ → (head field place : ℕ) → ℕ
field_at bytes head field place = value_at bytes (base_at bytes head field) head field place

-- the numbers of the token at a place in the block with this head, whose first token is in this line
abbrev pub token_in : List ℕ → (line head place : ℕ) → RawToken
token_in bytes line head place = record {
  dst_line = value_at bytes line head line_field place;
  dst_col = field_at bytes head column_field place;
  src_line = field_at bytes head source_line_field place;
  src_col = field_at bytes head source_column_field place;
  src_id = field_at bytes head source_field place;
  name_id = field_at bytes head name_field place;
  is_range = nat_lt 0 (packed_at bytes head range_field place);
}

-- the generated position of the token at a place other than 0, as one number
abbrev pub position_in : List ℕ → (line head place : ℕ) → ℕ
position_in bytes line head place = position_number (destination (token_in bytes line head place))

-- the token with this index. The first token of a block is at the position where the block starts
unfoldable pub compiled_token : List ℕ → ℕ → RawToken
compiled_token bytes index =
    let block = index / 64 in
    let start = start_at bytes block in
    let packed = token_in bytes (start / 2 ^ 32) (head_offset bytes block) (index % 64) in
    if index % 64 == 0 then record packed { dst_line = start / 2 ^ 32; dst_col = start % 2 ^ 32 } else packed

-- the scope of the token with this index: 0 if it has none, otherwise the id of its scope plus 1
abbrev pub scope_number : List ℕ → ℕ → ℕ
scope_number bytes index = packed_at bytes (head_offset bytes (index / 64)) scope_field (index % 64)

abbrev pub compiled_tokens : List ℕ → List RawToken
compiled_tokens bytes = map (compiled_token bytes) (range_with_len 0 (token_count bytes))
