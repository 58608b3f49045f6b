-- The report of a check as a JSON object: compact, with sorted keys, and a newline after it.
use Rattle.std.specs.Prelude.{ℕ, List, [], ◌∷◌, ◌++◌, codes, flat_map, length}
use Rattle.std.specs.Fmt.{decimal, signed_decimal}
use Rattle.sourcemap_check.specs.declared.tree.MapPlace.{MapPlace}
use Rattle.sourcemap_check_print.specs.Entries.{code_of, position_of, sentence_of, severity_of}
use Rattle.sourcemap_check_print.specs.Places.{key_text, map_of, sections_of}
use Rattle.sourcemap_check_print.specs.declared.entries.Entry.{Entry}
use Rattle.sourcemap_check_print.specs.declared.entries.Position.{Position}
use Rattle.sourcemap_check_print.specs.declared.entries.Position.TheVariants.{Nowhere, Segment, Token, Shift}
use Rattle.sourcemap_check_print.specs.declared.findings.Counts.{Counts}

-- the texts of items, with a comma before each but the first
abbrev pub separated : {X : Type 0} → (X → List ℕ) → List X → List ℕ
separated text [] = []
separated text (item ∷ items) = text item ++ flat_map (λ item. codes "," ++ text item) items

-- line and index of a segment, generated line and column of a token, lines and columns of a shift, or null
abbrev pub position_json : Position → List ℕ
position_json Nowhere = codes "null"
position_json (Segment line index) =
    codes "{\"index\":" ++ decimal index ++ codes ",\"line\":" ++ decimal line ++ codes "}"
position_json (Token line column) =
    codes "{\"column\":" ++ decimal column ++ codes ",\"line\":" ++ decimal line ++ codes "}"
position_json (Shift lines columns) =
    codes "{\"columns\":" ++ signed_decimal columns ++ codes ",\"lines\":" ++ signed_decimal lines ++ codes "}"

-- an entry up to its key
abbrev pub code_json : Entry → List ℕ
code_json entry = codes "{\"code\":\"SM" ++ decimal (code_of entry) ++ codes "\",\"key\":\""

-- an entry after its sections
abbrev pub end_json : Entry → List ℕ
end_json entry =
    codes "],\"sentence\":\"" ++ sentence_of entry ++ codes "\",\"severity\":\"" ++ severity_of entry ++ codes "\"}"

-- the members code, key, position, sections, sentence and severity
abbrev pub entry_json : (maps : List MapPlace) → Entry → List ℕ
entry_json maps entry =
    code_json entry ++ key_text entry ++ codes "\",\"position\":" ++ position_json (position_of entry)
    ++ codes ",\"sections\":[" ++ separated decimal (sections_of maps (map_of entry)) ++ end_json entry

-- the member counts, up to the findings
abbrev pub counts_json : Counts → (shown : ℕ) → List ℕ
counts_json counts shown =
    codes "{\"counts\":{\"invalid\":" ++ decimal counts.invalid ++ codes ",\"shown\":" ++ decimal shown
    ++ codes ",\"suspicious\":" ++ decimal counts.suspicious ++ codes "},\"findings\":["

-- the members counts and findings
abbrev pub json_text : List MapPlace → List Entry → Counts → List ℕ
json_text maps entries counts =
    counts_json counts (length entries) ++ separated (entry_json maps) entries ++ codes "]}\n"
