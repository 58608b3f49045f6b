-- The common prefix of absolute paths, by parts.
use Rattle.std.specs.Prelude.{ℕ, ◌==◌, nat_lt, Bool, false, ◌&&◌, ◌||◌, cond, List, [], ◌∷◌, length, Option, Some, None}
use Rattle.std.specs.Prelude.{slice_index, filter, map, codes}
use Rattle.std.specs.List.{concat}
use Rattle.std.specs.Char.{is_ascii_alphabetic}
use Rattle.std.specs.Str.{bytes_eq}

-- `/` or `\`
abbrev pub is_separator : ℕ → Bool
is_separator byte = (byte == 47) || (byte == 92)

-- starts with a separator
abbrev pub is_separated : List ℕ → Bool
is_separated [] = false
is_separated (byte ∷ text) = is_separator byte

-- starts with `/`, or has more than three bytes and starts with an ASCII letter, `:` and a separator
abbrev pub is_absolute : List ℕ → Bool
is_absolute text =
    (slice_index text 0 == 47)
    || (nat_lt 3 (length text)
    && (is_ascii_alphabetic (slice_index text 0) && ((slice_index text 1 == 58) && is_separator (slice_index text 2))))

-- parts, with this byte put in front of the first part; if there are no parts, a single part with only this byte in it
abbrev pub with_first_byte : ℕ → List (List ℕ) → List (List ℕ)
with_first_byte byte [] = (byte ∷ []) ∷ []
with_first_byte byte (part ∷ parts) = (byte ∷ part) ∷ parts

-- a text, split before every separator
abbrev pub path_parts : List ℕ → List (List ℕ)
path_parts [] = []
path_parts (byte ∷ text) =
    cond (is_separated text) ((byte ∷ []) ∷ path_parts text) (with_first_byte byte (path_parts text))

-- the longest common prefix of two lists of parts
abbrev pub common_parts : List (List ℕ) → List (List ℕ) → List (List ℕ)
common_parts [] qs = []
common_parts (p ∷ ps) [] = []
common_parts (p ∷ ps) (q ∷ qs) = cond (bytes_eq p q) (p ∷ common_parts ps qs) []

-- the longest common prefix of any number of lists of parts; empty if there are no lists
abbrev pub first_parts : List (List (List ℕ)) → List (List ℕ)
first_parts [] = []
first_parts (parts ∷ []) = parts
first_parts (parts ∷ next ∷ others) = common_parts parts (first_parts (next ∷ others))

-- a prefix; `None` if it is empty or `/` alone
abbrev pub unless_root : List ℕ → Option (List ℕ)
unless_root prefix = cond (bytes_eq prefix [] || bytes_eq prefix (codes "/")) None (Some prefix)

-- the common first parts of all absolute paths among the texts, joined; `None` if the result is empty or `/` alone
abbrev pub common_prefix : List (List ℕ) → Option (List ℕ)
common_prefix texts = unless_root (concat (first_parts (map path_parts (filter is_absolute texts))))
