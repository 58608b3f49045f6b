-- The texts of a compiled map, as bytes.
use Rattle.std.specs.Prelude.{◌≡◌, ℕ, ◌+◌, ◌-◌, ◌==◌, ◌||◌, nat_lt, if◌then◌else◌, List, length, slice_range}
use Rattle.std.specs.Prelude.{Option, Some, None, Result, Ok, Err}
use Rattle.std.specs.Str.{IsUtf8}
use denote.Ref.{Bor}
use Rattle.sourcemap_compiled.specs.Numbers.{u32_at}
use Rattle.sourcemap_compiled.specs.Layout.{content_count, file_text, name_count, scope_count, source_count, text_offset}
use Rattle.sourcemap_compiled.specs.Blocks.{scope_number}
use Rattle.sourcemap_compiled.specs.declared.errors.CompiledMapError.{CompiledMapError}
use Rattle.sourcemap_compiled.specs.declared.errors.CompiledMapError.TheVariants.{InvalidUtf8, TextOutside}

-- where a text starts, by its number
abbrev pub text_start : List ℕ → ℕ → ℕ
text_start bytes text = u32_at bytes (text_offset bytes text)

-- the text with this number goes from its start up to the start of the next one. A missing text is empty. After any
-- other text a zero byte stands, which does not count. `TextOutside` if a text ends before its start, or after the file
abbrev pub text_at : List ℕ → ℕ → Result (Option (List ℕ)) CompiledMapError
text_at bytes text =
    let start = text_start bytes text in
    let end = text_start bytes (text + 1) in
    if nat_lt end start || nat_lt (length bytes) end then Err TextOutside
    else if start == end then Ok None
    else Ok (Some (slice_range bytes start (end - 1)))

-- the source with this id, resolved; none if no source has this id
abbrev pub compiled_source : List ℕ → ℕ → Result (Option (List ℕ)) CompiledMapError
compiled_source bytes id = if nat_lt id (source_count bytes) then text_at bytes id else Ok None

-- the name with this id; none if no name has this id
abbrev pub compiled_name : List ℕ → ℕ → Result (Option (List ℕ)) CompiledMapError
compiled_name bytes id = if nat_lt id (name_count bytes) then text_at bytes (source_count bytes + id) else Ok None

-- the scope with this id; none if no scope has this id
abbrev pub scope_text : List ℕ → ℕ → Result (Option (List ℕ)) CompiledMapError
scope_text bytes id =
    if nat_lt id (scope_count bytes) then text_at bytes (source_count bytes + name_count bytes + id) else Ok None

-- the scope of the token with this index, if it has one
abbrev pub compiled_scope : List ℕ → ℕ → Result (Option (List ℕ)) CompiledMapError
compiled_scope bytes index =
    let number = scope_number bytes index in if number == 0 then Ok None else scope_text bytes (number - 1)

abbrev pub compiled_file : List ℕ → Result (Option (List ℕ)) CompiledMapError
compiled_file bytes = text_at bytes (file_text bytes)

-- the contents for this source id, if the map has some
abbrev pub compiled_contents : List ℕ → ℕ → Result (Option (List ℕ)) CompiledMapError
compiled_contents bytes id =
    if nat_lt id (content_count bytes) then text_at bytes (file_text bytes + 1 + id) else Ok None

-- what a call returns that reads these bytes as text: the text, or `InvalidUtf8` if they are not UTF-8
abbrev pub ReadsText : Result (Option (List ℕ)) CompiledMapError → Result (Option (Bor (List ℕ))) CompiledMapError
    → Type 0
ReadsText bytes (Ok None) = bytes ≡ Ok None
ReadsText bytes (Ok (Some text)) = (bytes ≡ Ok (Some text.now)) × IsUtf8 text.now
ReadsText bytes (Err InvalidUtf8) = (text : List ℕ) × (bytes ≡ Ok (Some text)) × ¬ IsUtf8 text
ReadsText bytes (Err e) = bytes ≡ Err e
