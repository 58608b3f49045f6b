-- How a block of at most 64 tokens is written.
use Rattle.std.specs.Prelude.{ℕ, ◌*◌, ◌==◌, if◌then◌else◌, List, [], ◌∷◌, ◌++◌, map, slice_index, take, drop}
use Rattle.std.specs.List.{flat_map}
use Rattle.byteorder.specs.Endian.{little_bytes}
use Rattle.sourcemap_tokens.specs.declared.tokens.RawToken.{RawToken}
use Rattle.sourcemap_compiled.specs.Numbers.{position_number}
use Rattle.sourcemap_compiled_write.specs.Packing.{base_of, field_bytes, number_of, padded, token_values, width_of}
use Rattle.sourcemap_compiled_write.specs.Pieces.{pieces}

-- the items of a block: 64, or what is left
abbrev pub block_of : {X : Type 0} → List X → (block : ℕ) → List X
block_of items block = take 64 (drop (64 * block) items)

-- the bases that stand in a head: those of the generated columns, source ids, original lines, original columns and
-- name ids
abbrev pub head_bases : List RawToken → List ℕ
head_bases tokens =
    base_of (token_values tokens 1) ∷ base_of (token_values tokens 2) ∷ base_of (token_values tokens 3)
    ∷ base_of (token_values tokens 4) ∷ base_of (token_values tokens 5) ∷ []

-- the base of each field. That of the generated lines is the line of the first token; range flags and scopes have none
abbrev pub bases : List RawToken → List ℕ
bases tokens = slice_index (token_values tokens 0) 0 ∷ (head_bases tokens ++ 0 ∷ 0 ∷ [])

-- the 64 numbers of a field: of the last one the scopes
unfoldable pub field_numbers : List RawToken → (scopes : List ℕ) → (field : ℕ) → List ℕ
field_numbers tokens scopes field =
    if field == 7 then padded scopes
    else padded (map (number_of (slice_index (bases tokens) field)) (token_values tokens field))

-- the width of a field
abbrev pub field_width : List RawToken → (scopes : List ℕ) → (field : ℕ) → ℕ
field_width tokens scopes field = width_of (field_numbers tokens scopes field)

-- the body of a block: its eight fields
unfoldable pub body_bytes : List RawToken → (scopes : List ℕ) → List ℕ
body_bytes tokens scopes =
    pieces (λ field. field_bytes (field_width tokens scopes field) (field_numbers tokens scopes field)) 8

-- the widths of the eight fields, a byte each
unfoldable pub width_bytes : List RawToken → (scopes : List ℕ) → List ℕ
width_bytes tokens scopes = pieces (λ field. field_width tokens scopes field ∷ []) 8

-- the head of a block whose body starts at this offset
unfoldable pub head_bytes : (offset : ℕ) → List RawToken → (scopes : List ℕ) → List ℕ
head_bytes offset tokens scopes =
    flat_map (little_bytes 4) (offset ∷ head_bases tokens) ++ width_bytes tokens scopes

-- the start of a block: the generated position of its first token
unfoldable pub start_bytes : List RawToken → List ℕ
start_bytes tokens =
    little_bytes 8 (position_number (slice_index (token_values tokens 0) 0, slice_index (token_values tokens 1) 0))
