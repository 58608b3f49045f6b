-- The function that contains a bytecode offset.
use Rattle.std.specs.Prelude.{◌≡◌, ℕ, List, Option, Ok}
use Rattle.sourcemap.specs.Hermes.{HermesValue, function_name}
use Rattle.sourcemap.specs.HermesDecoder.{RecordDecodesAsHermes}
use Rattle.sourcemap.specs.HermesRewrite.{IsInOrderOf}
use Rattle.sourcemap.specs.Reading.{BytesHaveResult}
use Rattle.sourcemap.specs.Types.{lookup}

-- the name that a Hermes map has for a bytecode offset. If the functions of the source that the offset maps to are not
-- sorted by position, `name` may be anything
abbrev pub IsNameIn : HermesValue → ℕ → Option (List ℕ) → Type 0
IsNameIn h offset name = IsInOrderOf h (lookup h.map (0, offset)) → name ≡ function_name h offset

-- `IsNameIn` holds for the Hermes map that the bytes decode to
abbrev pub IsNameAt : (bytes : List ℕ) → ℕ → Option (List ℕ) → Type 0
IsNameAt bytes offset name =
    (h : HermesValue) × BytesHaveResult RecordDecodesAsHermes bytes (Ok h) × IsNameIn h offset name
