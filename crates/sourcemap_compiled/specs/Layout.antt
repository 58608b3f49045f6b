-- The layout of a compiled map: a header of 64 bytes, three tables one after the other (starts, heads, texts), and the
-- bodies of the blocks and the texts anywhere. A number has four bytes if nothing else is said, lowest byte first.
use Rattle.std.specs.Prelude.{◌≡◌, ℕ, ◌+◌, ◌*◌, ◌/◌, ◌==◌, ◌||◌, not, nat_lt, if◌then◌else◌, List, length, slice_range}
use Rattle.std.specs.Prelude.{Option, Some, None}
use Rattle.sourcemap_compiled.specs.Numbers.{u32_at}
use Rattle.sourcemap_compiled.specs.declared.errors.CompiledMapError.{CompiledMapError}
use Rattle.sourcemap_compiled.specs.declared.errors.CompiledMapError.TheVariants.{WrongMagic, WrongVersion}
use Rattle.sourcemap_compiled.specs.declared.errors.CompiledMapError.TheVariants.{Truncated, WrongExtent}

-- the bytes 8F 53 4D 43 (`SMC` after a byte that begins no UTF-8 text)
abbrev pub compiled_magic : ℕ
compiled_magic = 0x434D538F

abbrev pub compiled_version : ℕ
compiled_version = 1

-- The header: the magic number at 0, the version at 4, the file length at 8, four counts from 12 on, 1 or 0 at 28
-- for a debug id or none, the 16 bytes of the debug id at 32, at 48 the offset of the tables, and at 52 one count more.

abbrev pub file_length : List ℕ → ℕ
file_length bytes = u32_at bytes 8

abbrev pub token_count : List ℕ → ℕ
token_count bytes = u32_at bytes 12

abbrev pub source_count : List ℕ → ℕ
source_count bytes = u32_at bytes 16

abbrev pub name_count : List ℕ → ℕ
name_count bytes = u32_at bytes 20

-- how many source ids have an item for contents: 0 if the map was compiled without contents
abbrev pub content_count : List ℕ → ℕ
content_count bytes = u32_at bytes 24

-- the scopes are the names of functions; a map has them if it comes from Hermes
abbrev pub scope_count : List ℕ → ℕ
scope_count bytes = u32_at bytes 52

abbrev pub compiled_debug_id : List ℕ → Option (List ℕ)
compiled_debug_id bytes = if u32_at bytes 28 == 0 then None else Some (slice_range bytes 32 48)

-- where the tables begin
abbrev pub tables_start : List ℕ → ℕ
tables_start bytes = u32_at bytes 48

-- The tables.

-- tokens are stored in blocks of 64; the last block may have fewer
abbrev pub block_count : List ℕ → ℕ
block_count bytes = (token_count bytes + 63) / 64

-- the starts of the blocks: the generated position of the first token of each, as one number of eight bytes
abbrev pub start_offset : List ℕ → ℕ → ℕ
start_offset bytes block = tables_start bytes + 8 * block

-- the heads of the blocks, 32 bytes each
abbrev pub head_offset : List ℕ → ℕ → ℕ
head_offset bytes block = tables_start bytes + 8 * block_count bytes + 32 * block

-- the number of the text that is the file
abbrev pub file_text : List ℕ → ℕ
file_text bytes = source_count bytes + name_count bytes + scope_count bytes

-- the texts are those of the sources, those of the names, those of the scopes, the file, and the contents
abbrev pub text_count : List ℕ → ℕ
text_count bytes = file_text bytes + 1 + content_count bytes

-- where each text starts in the file, and one number more, where the last text ends
abbrev pub text_offset : List ℕ → ℕ → ℕ
text_offset bytes text = tables_start bytes + 40 * block_count bytes + 4 * text

abbrev pub tables_end : List ℕ → ℕ
tables_end bytes = text_offset bytes (text_count bytes + 1)

-- why bytes are refused, the first of these reasons; `None` if they are accepted
abbrev pub refusal : List ℕ → Option CompiledMapError
refusal bytes =
    if nat_lt (length bytes) 64 then Some Truncated
    else if not (u32_at bytes 0 == compiled_magic) then Some WrongMagic
    else if not (u32_at bytes 4 == compiled_version) then Some (WrongVersion (u32_at bytes 4))
    else if nat_lt (length bytes) (file_length bytes) then Some Truncated
    else if nat_lt (file_length bytes) (length bytes) || nat_lt (length bytes) (tables_end bytes) then Some WrongExtent
    else None

-- the bytes are those of a compiled map, as far as `parse` looks
abbrev pub IsAccepted : List ℕ → Type 0
IsAccepted bytes = refusal bytes ≡ None
