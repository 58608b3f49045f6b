-- A line for each entry, and a last line with counts.
use Rattle.std.specs.Prelude.{ℕ, List, [], ◌++◌, codes, flat_map, length}
use Rattle.std.specs.Fmt.{decimal, signed_decimal}
use Rattle.sourcemap_check.specs.declared.tree.MapPlace.{MapPlace}
use Rattle.sourcemap_check_print.specs.Entries.{code_of, position_of, sentence_of}
use Rattle.sourcemap_check_print.specs.Places.{key_text, map_of, sections_of}
use Rattle.sourcemap_check_print.specs.declared.entries.Entry.{Entry}
use Rattle.sourcemap_check_print.specs.declared.entries.Position.{Position}
use Rattle.sourcemap_check_print.specs.declared.entries.Position.TheVariants.{Nowhere, Segment, Token, Shift}
use Rattle.sourcemap_check_print.specs.declared.findings.Counts.{Counts}

-- the sections that lead to a map, before a key of this map
abbrev pub path_text : (sections : List ℕ) → List ℕ
path_text sections = flat_map (λ section. codes "sections[" ++ decimal section ++ codes "].map.") sections

-- a token is at a generated line and column, positions are off by lines and columns
abbrev pub position_text : Position → List ℕ
position_text Nowhere = []
position_text (Segment line index) = codes " " ++ decimal line ++ codes ":" ++ decimal index
position_text (Token line column) = codes " at " ++ decimal line ++ codes ":" ++ decimal column
position_text (Shift lines columns) = codes " by " ++ signed_decimal lines ++ codes ":" ++ signed_decimal columns

-- the code, and a sentence
abbrev pub end_text : Entry → List ℕ
end_text entry = codes ": SM" ++ decimal (code_of entry) ++ codes " " ++ sentence_of entry ++ codes "\n"

-- for example `MAP:sections[0].map.mappings 1:0: SM132 the segment ends within a number`
abbrev pub entry_line : (maps : List MapPlace) → Entry → List ℕ
entry_line maps entry =
    codes "MAP:" ++ path_text (sections_of maps (map_of entry)) ++ key_text entry
    ++ position_text (position_of entry) ++ end_text entry

abbrev pub counts_line : Counts → (shown : ℕ) → List ℕ
counts_line counts shown =
    decimal counts.invalid ++ codes " invalid, " ++ decimal counts.suspicious ++ codes " suspicious, "
    ++ decimal shown ++ codes " shown\n"

abbrev pub lines_text : List MapPlace → List Entry → Counts → List ℕ
lines_text maps entries counts = flat_map (entry_line maps) entries ++ counts_line counts (length entries)
