-- Compiling of the map in a handle.
use Rattle.std.specs.Prelude.{ℕ, List, Option, Some, None}
use Rattle.sourcemap_cache.specs.Compile.{IsCompiled}
use Rattle.sourcemap_cache.specs.declared.parts.WithContents.{WithContents}
use Rattle.sourcemap_errors.specs.declared.errors.Error.{Error}
use Rattle.sourcemap_index_model.specs.MapTree.{MapTree}
use Rattle.sourcemap_c_compiled.specs.Compiling.{IsCompileError}

-- the handle has the compiled map; false if there is no map
abbrev pub HoldsCompiled : WithContents → Option MapTree → Option (List ℕ) → Type 0
HoldsCompiled choice (Some t) (Some bytes) = IsCompiled choice t bytes
HoldsCompiled choice _ _ = ⊥

-- an error of compiling the map; false if there is no map
abbrev pub FailsToCompile : WithContents → Option MapTree → Error → Type 0
FailsToCompile choice (Some t) e = IsCompileError choice t e
FailsToCompile choice None e = ⊥
