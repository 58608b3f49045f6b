-- Compiling of maps, with the errors of `sourcemap`.
use Rattle.std.specs.Prelude.{◌≡◌, Bool, true, false, Err}
use Rattle.sourcemap_cache.specs.Compile.{CompileAnswer}
use Rattle.sourcemap_cache.specs.Errors.{as_error}
use Rattle.sourcemap_cache.specs.declared.errors.CompileError.{CompileError}
use Rattle.sourcemap_cache.specs.declared.parts.WithContents.{WithContents}
use Rattle.sourcemap_cache.specs.declared.parts.WithContents.TheVariants.{No, Yes}
use Rattle.sourcemap_errors.specs.declared.errors.Error.{Error}
use Rattle.sourcemap_index_model.specs.MapTree.{MapTree}

-- whether contents are compiled
abbrev pub choice_of : Bool → WithContents
choice_of true = Yes
choice_of false = No

-- an error of `compile` for the map, as one of `sourcemap`
abbrev pub IsCompileError : WithContents → MapTree → Error → Type 0
IsCompileError choice t e = (error : CompileError) × CompileAnswer choice t (Err error) × (e ≡ as_error error)
