-- Compiled maps on standard input, and what `compile` prints.
use Rattle.std.specs.Prelude.{◌≡◌, ℕ, nat_eq, Bool, List, ◌∷◌, ◌++◌, codes, Some, Result, Ok, Err, string_bytes, ◌⊎◌}
use Rattle.std.specs.List.{starts_with}
use Rattle.sourcemap.specs.Decoder.{BytesDecode}
use Rattle.sourcemap.specs.Flat.{flat}
use Rattle.sourcemap.specs.Trees.{MapTree}
use Rattle.sourcemap.specs.declared.errors.Error.{Error}
use Rattle.sourcemap.specs.declared.errors.Error.TheVariants.{CannotFlatten}
use Rattle.sourcemap_compiled.specs.Errors.{error_text as fault_text}
use Rattle.sourcemap_compiled.specs.Layout.{IsAccepted, refusal}
use Rattle.sourcemap_compiled.specs.Soundness.{HasFault}
use Rattle.sourcemap_compiled.specs.declared.errors.CompiledMapError.{CompiledMapError}
use Rattle.sourcemap_cache.specs.Compile.{ArePartsOf, IsCompiled}
use Rattle.sourcemap_cache.specs.Errors.{error_text as compile_error_text}
use Rattle.sourcemap_cache.specs.File.{AreTooLarge}
use Rattle.sourcemap_cache.specs.Parts.{Parts}
use Rattle.sourcemap_cache.specs.declared.errors.CompileError.TheVariants.{TooLarge}
use Rattle.sourcemap_cache.specs.declared.parts.WithContents.{WithContents}
use Rattle.sourcemap_trace.specs.Asked.{compiled_says}
use Rattle.sourcemap_trace.specs.Trace.{meaning_text}
use Rattle.sourcemap_cli.specs.Lines.{IsLineOf, newline}

-- the magic number of a compiled map: the byte 8F and `SMC`
abbrev pub magic : List ℕ
magic = 143 ∷ codes "SMC"

-- whether bytes begin as a compiled map
abbrev pub is_compiled : List ℕ → Bool
is_compiled bytes = starts_with nat_eq bytes magic

-- the line that is printed for a lookup in a compiled map: the text of what the position means there, or `none`
abbrev pub compiled_line : (first : ℕ) → (bytes : List ℕ) → ℕ × ℕ → List ℕ
compiled_line first bytes p = meaning_text first (compiled_says bytes p) ++ newline

-- the first fault of a compiled map that is not sound
abbrev pub IsFaultOf : List ℕ → CompiledMapError → Type 0
IsFaultOf bytes e = (refusal bytes ≡ Some e) ⊎ (IsAccepted bytes × HasFault bytes e)

-- the text of the first fault of a compiled map, and a newline
abbrev pub IsRefusedCompiled : (bytes : List ℕ) → (text : List ℕ) → Type 0
IsRefusedCompiled bytes text = (e : CompiledMapError) × IsFaultOf bytes e × (text ≡ fault_text e ++ newline)

-- the compiled map that is printed for a map, or why an index map cannot be flattened
abbrev pub CompilesTo : WithContents → MapTree → Result (List ℕ) Error → Type 0
CompilesTo contents t (Ok bytes) = IsCompiled contents t bytes
CompilesTo contents t (Err (CannotFlatten reason)) = flat t ≡ Err (string_bytes reason)
CompilesTo contents t (Err _) = ⊥

-- the bytes decode to a map that is too large to be compiled, and the text says so
abbrev pub IsTooLarge : WithContents → (bytes : List ℕ) → (text : List ℕ) → Type 0
IsTooLarge contents bytes text =
    (t : MapTree) × BytesDecode bytes (Ok t) × ((p : Parts) × ArePartsOf contents t p × AreTooLarge p)
    × IsLineOf (compile_error_text TooLarge) text
