-- Original names and source lines.
use Rattle.std.specs.Prelude.{◌≡◌, ℕ, List, Option, Ok, slice_get, option_and_then}
use Rattle.sourcemap.specs.Lines.{line_bodies}
use Rattle.sourcemap.specs.Reading.{BytesHaveResult, RegularDecodes}
use Rattle.sourcemap.specs.TokenWalk.{function_name}
use Rattle.sourcemap.specs.Types.{MapValue, TokenValue, contents_of}

-- the original name of a function, guessed with the map that `bytes` decodes to; `None` if there is no guess
abbrev pub IsNameOf : (bytes text : List ℕ) → ℕ × ℕ → (minified : List ℕ) → Option (List ℕ) → Type 0
IsNameOf bytes text p minified name =
    (m : MapValue) × BytesHaveResult RegularDecodes bytes (Ok m) × (name ≡ function_name m text minified p)

-- the text of the source line that a token maps to; `None` if the map lacks the contents of the token's source, or if
-- the contents have no such line
abbrev pub source_line_of : TokenValue → Option (List ℕ)
source_line_of t =
    option_and_then (λ text. slice_get (line_bodies text) t.raw.src_line) (contents_of t.map_of t.raw.src_id)
