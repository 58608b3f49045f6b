-- The texts of the sources of a map.
use Rattle.std.specs.Prelude.{ℕ, List, Option, option_and_then, slice_get}
use Rattle.std.specs.Option.{option_or}
use Rattle.sourcemap_source_views.specs.Lines.{line_bodies}
use Rattle.sourcemap_tokens.specs.Items.{item_at}
use Rattle.sourcemap_map_regular.specs.Map.{MapValue, contents_of}

-- the text of the file of each source, if files are given
abbrev pub Files : Type 0
Files = Option (List (Option (List ℕ)))

-- the text of the file of the source with this id, if files are given and there is one
abbrev pub file_of : Files → ℕ → Option (List ℕ)
file_of files id = option_and_then (λ texts. item_at texts id) files

-- the text of a source: the contents that the map has for it, otherwise its file
abbrev pub source_text : MapValue → Files → ℕ → Option (List ℕ)
source_text m files id = option_or (contents_of m id) (file_of files id)

-- a line of a source, if the source has a text with such a line
abbrev pub line_of : MapValue → Files → (id line : ℕ) → Option (List ℕ)
line_of m files id line = option_and_then (λ text. slice_get (line_bodies text) line) (source_text m files id)
