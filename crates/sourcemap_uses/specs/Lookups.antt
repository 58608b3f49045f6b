-- Lookups in the map that bytes decode to.
use Rattle.std.specs.Prelude.{◌≡◌, ℕ, List, Option, option_map, Ok}
use Rattle.sourcemap.specs.Decoder.{BytesDecode}
use Rattle.sourcemap.specs.Token.{token_text}
use Rattle.sourcemap.specs.Trees.{MapTree, meaning}

-- the text of the position's meaning in the map that the bytes decode to; `None` if the position has no
-- meaning
abbrev pub IsLookupText : (bytes : List ℕ) → ℕ × ℕ → Option (List ℕ) → Type 0
IsLookupText bytes p text = (t : MapTree) × BytesDecode bytes (Ok t) × (text ≡ option_map token_text (meaning t p))
