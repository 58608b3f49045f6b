-- What positions mean in the maps that are asked: decoded maps of any kind, and compiled maps.
use Rattle.std.specs.Prelude.{ℕ, List, Option, None, option_map, IfSome, Result, Ok, Err}
use Rattle.std.specs.Option.{option_copied}
use Rattle.sourcemap.specs.AnyMap.{map_tree}
use Rattle.sourcemap.specs.Trees.{IsInOrder, meaning}
use Rattle.sourcemap.specs.Types.{Meaning}
use Rattle.sourcemap_compiled.specs.Lookup.{CompiledMeaning, compiled_meaning}
use Rattle.sourcemap_compiled.specs.Soundness.{IsSound}
use Rattle.sourcemap_compiled.specs.Stored.{bytes_of, token_value}
use Rattle.sourcemap_compiled.specs.declared.errors.CompiledMapError.{CompiledMapError}
use Rattle.sourcemap_compiled.specs.declared.token.CompiledToken.{CompiledToken}
use Rattle.sourcemap_trace.specs.declared.asked.AskedMap.{AskedMap}
use Rattle.sourcemap_trace.specs.declared.asked.AskedMap.TheVariants.{Decoded, Compiled}
use denote.Ref.{Bor}

-- a text of a compiled map, or none if it cannot be read
abbrev pub text_in : Result (Option (List ℕ)) CompiledMapError → Option (List ℕ)
text_in (Ok text) = text
text_in (Err e) = None

-- the same of a text that was read
abbrev pub read_text : Result (Option (Bor (List ℕ))) CompiledMapError → Option (List ℕ)
read_text (Ok text) = option_copied text
read_text (Err e) = None

-- a meaning in a compiled map, without the scope
abbrev pub plain : CompiledMeaning → Meaning
plain says = record {
  source = text_in says.source;
  line = says.line;
  column = says.column;
  name = text_in says.name;
  is_range = says.is_range;
}

-- what a position means in the compiled map in these bytes
abbrev pub compiled_says : List ℕ → ℕ × ℕ → Option Meaning
compiled_says bytes p = option_map plain (compiled_meaning bytes p)

-- what a position means in a map that is asked
abbrev pub asked_meaning : AskedMap → ℕ × ℕ → Option Meaning
asked_meaning (Decoded map) = meaning (map_tree map.now)
asked_meaning (Compiled map) = compiled_says (bytes_of map)

-- a lookup finds the closest token: the sections of an index map are sorted, a compiled map is sound
abbrev pub IsExact : AskedMap → Type 0
IsExact (Decoded map) = IsInOrder (map_tree map.now)
IsExact (Compiled map) = IsSound (bytes_of map)

-- a token that was found is one of a sound map
abbrev pub AreSound : Option CompiledToken → Type 0
AreSound found = IfSome found (λ token. IsSound (token_value token).bytes)
