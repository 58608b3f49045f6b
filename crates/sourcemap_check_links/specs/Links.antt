-- The debug id and the file name by which a generated text names its map.
use Rattle.std.specs.Prelude.{ℕ, ◌==◌, ◌||◌, Bool, not, false, List, [], ◌∷◌, drop, codes, nat_eq, if◌then◌else◌}
use Rattle.std.specs.Prelude.{Option, Some, None, option_and_then}
use Rattle.std.specs.List.{starts_with, before_first, after_last}
use Rattle.std.specs.Option.{option_or}
use Rattle.std.specs.Str.{trim, bytes_eq}
use Rattle.percent_encoding.specs.Percent.{percent_decode}
use Rattle.sourcemap_headers.specs.DebugId.{debug_id_of}
use Rattle.sourcemap_references.specs.Reference.{Reference, usual, legacy, first_reference, text_lines}
use Rattle.sourcemap_references.specs.Resolution.{is_data_url}

-- the text after the mark `//# debugId=` of a line, trimmed; `None` for a line that does not start with the mark
abbrev pub id_text_on : List ℕ → Option (List ℕ)
id_text_on line = if starts_with nat_eq line (codes "//# debugId=") then Some (trim (drop 12 line)) else None

-- that of the last of these lines that starts with the mark
abbrev pub last_id_text : List (List ℕ) → Option (List ℕ)
last_id_text [] = None
last_id_text (line ∷ lines) = option_or (last_id_text lines) (id_text_on line)

-- the debug id that a text names: on its last line that starts with the mark, if it is an id
abbrev pub named_id : List ℕ → Option (List ℕ)
named_id text = option_and_then debug_id_of (last_id_text (text_lines text))

-- an id, if it is not this one
abbrev pub unless_same : List ℕ → List ℕ → Option (List ℕ)
unless_same own other = if bytes_eq own other then None else Some other

-- the debug id that a text names, if it is not this one
abbrev pub other_id : List ℕ → List ℕ → Option (List ℕ)
other_id text own = option_and_then (unless_same own) (named_id text)

abbrev pub url_in : Reference → List ℕ
url_in (usual url) = url
url_in (legacy url) = url

-- the file name of a URL: the part of its path after the last `/`, with its escapes decoded. The path ends before the
-- first `?` or `#`
abbrev pub file_name : List ℕ → List ℕ
file_name url = percent_decode (after_last (λ b. b == 47) (before_first (λ b. (b == 63) || (b == 35)) url))

-- a URL that ends in another file name. A `data:` URL ends in none
abbrev pub names_other : List ℕ → List ℕ → Bool
names_other file url = if is_data_url url then false else not (bytes_eq (file_name url) file)

-- the reference of a text, if it ends in another file name than this one
abbrev pub other_reference : List ℕ → List ℕ → Option Reference
other_reference text file =
    option_and_then
    (option_and_then (λ r. if names_other file (url_in r) then Some r else None)) (first_reference text)
