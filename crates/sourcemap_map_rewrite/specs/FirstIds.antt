-- For each text in use, the old number at the first use of the text.
use Rattle.std.specs.Prelude.{ℕ, Bool, false, List, map, slice_get, unwrap_or}
use Rattle.std.specs.List.{find}
use Rattle.std.specs.Option.{option_map_or}
use Rattle.std.specs.Str.{bytes_eq}
use Rattle.sourcemap_tokens.specs.Tokens.{no_id}
use Rattle.sourcemap_map_rewrite.specs.Numbering.{texts_in_use}

-- the number is an index of this text in the list
abbrev pub names_text : List (List ℕ) → List ℕ → ℕ → Bool
names_text texts text id = option_map_or (bytes_eq text) (slice_get texts id) false

-- the first of these numbers that is an index of the text; `no_id` if there is no such number
abbrev pub first_of : List (List ℕ) → List ℕ → List ℕ → ℕ
first_of texts ids text = unwrap_or (find (names_text texts text) ids) no_id

-- one index for each text in `texts_in_use`, in the same order: the first of `ids` that is an index of the text
abbrev pub firsts_of : List (List ℕ) → List ℕ → List ℕ
firsts_of texts ids = map (first_of texts ids) (texts_in_use texts ids)
