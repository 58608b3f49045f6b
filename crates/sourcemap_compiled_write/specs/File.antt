-- The file that is written: header, bodies, starts, heads, text table, texts.
use Rattle.std.specs.Prelude.{◌≡◌, ℕ, ◌+◌, ◌*◌, ◌/◌, ◌^◌, ◌≤◌, ◌<◌, ◌⊎◌, List, [], ◌∷◌, ◌++◌, length, replicate}
use Rattle.std.specs.Prelude.{slice_index, IfSome, Option, Some, None}
use Rattle.std.specs.List.{flat_map}
use Rattle.byteorder.specs.Endian.{little_bytes}
use Rattle.sourcemap_compiled.specs.Layout.{compiled_magic, compiled_version}
use Rattle.sourcemap_compiled_write.specs.Blocks.{block_of, body_bytes, head_bytes, start_bytes}
use Rattle.sourcemap_compiled_write.specs.Packing.{token_values}
use Rattle.sourcemap_compiled_write.specs.Parts.{Parts}
use Rattle.sourcemap_compiled_write.specs.Pieces.{pieces}
use Rattle.sourcemap_compiled_write.specs.Texts.{table_bytes, texts_bytes}

-- the number of blocks
abbrev pub blocks_of : Parts → ℕ
blocks_of p = (length p.tokens + 63) / 64

-- the bodies of the first blocks
abbrev pub bodies_of : Parts → (count : ℕ) → List ℕ
bodies_of p count = pieces (λ block. body_bytes (block_of p.tokens block) (block_of p.scopes block)) count

-- where the body of a block starts
abbrev pub body_offset : Parts → (block : ℕ) → ℕ
body_offset p block = 64 + length (bodies_of p block)

-- the starts of the first blocks
abbrev pub starts_of : Parts → (count : ℕ) → List ℕ
starts_of p count = pieces (λ block. start_bytes (block_of p.tokens block)) count

-- the heads of the first blocks
abbrev pub heads_of : Parts → (count : ℕ) → List ℕ
heads_of p count =
    pieces (λ block. head_bytes (body_offset p block) (block_of p.tokens block) (block_of p.scopes block)) count

-- the texts by number
abbrev pub texts_of : Parts → List (Option (List ℕ))
texts_of p = p.sources ++ (p.names ++ (p.scope_names ++ (p.file ∷ p.contents)))

-- where the tables start
abbrev pub tables_offset : Parts → ℕ
tables_offset p = body_offset p (blocks_of p)

-- how many bytes the tables take: a start and a head of 40 bytes for each block, and the text table
abbrev pub tables_length : Parts → ℕ
tables_length p = 40 * blocks_of p + 4 * (length (texts_of p) + 1)

-- where the texts start
abbrev pub texts_offset : Parts → ℕ
texts_offset p = tables_offset p + tables_length p

-- the length of the file
abbrev pub length_of : Parts → ℕ
length_of p = texts_offset p + length (texts_bytes (texts_of p))

-- how many bytes the tables and the texts take
abbrev pub rest_length : Parts → ℕ
rest_length p = tables_length p + length (texts_bytes (texts_of p))

-- 1 and the bytes of the debug id, or 0 and zeros
abbrev pub debug_id_number : Option (List ℕ) → ℕ
debug_id_number None = 0
debug_id_number (Some id) = 1

abbrev pub debug_id_bytes : Option (List ℕ) → List ℕ
debug_id_bytes None = replicate 16 0
debug_id_bytes (Some id) = id

-- the numbers of the header before the debug id, and after it
abbrev pub header_numbers : Parts → List ℕ
header_numbers p =
    compiled_magic ∷ compiled_version ∷ length_of p ∷ length p.tokens ∷ length p.sources ∷ length p.names
    ∷ length p.contents ∷ debug_id_number p.debug_id ∷ []

abbrev pub header_end : Parts → List ℕ
header_end p = tables_offset p ∷ length p.scope_names ∷ 0 ∷ 0 ∷ []

unfoldable pub header_bytes : Parts → List ℕ
header_bytes p =
    flat_map (little_bytes 4) (header_numbers p)
    ++ (debug_id_bytes p.debug_id ++ flat_map (little_bytes 4) (header_end p))

-- the whole file
unfoldable pub file_bytes : Parts → List ℕ
file_bytes p =
    header_bytes p
    ++ (bodies_of p (blocks_of p)
    ++ (starts_of p (blocks_of p)
    ++ (heads_of p (blocks_of p) ++ (table_bytes (texts_offset p) (texts_of p) ++ texts_bytes (texts_of p)))))

-- numbers have 32 bits and a debug id 16 bytes; there are fewer than 2^32 tokens and bytes
pub record AreWritable (p : Parts) : Type 0 where
  pub values : (field index : ℕ) → field < 7 → slice_index (token_values p.tokens field) index < 2 ^ 32
  pub scopes : (index : ℕ) → slice_index p.scopes index < 2 ^ 32
  pub id : IfSome p.debug_id (λ id. length id ≡ 16)
  pub few : length p.tokens < 2 ^ 32
  pub short : length (file_bytes p) < 2 ^ 32

-- there are 2^32 tokens or bytes, or more
abbrev pub AreTooLarge : Parts → Type 0
AreTooLarge p = (2 ^ 32 ≤ length p.tokens) ⊎ (2 ^ 32 ≤ length (file_bytes p))
