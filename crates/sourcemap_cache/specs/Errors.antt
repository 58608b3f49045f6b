-- The text that each error displays, and the conversions from and to other errors.
use Rattle.std.specs.Prelude.{ℕ, List, codes, Option, Some}
use Rattle.sourcemap_errors.specs.Errors.{error_text as map_error_text}
use Rattle.sourcemap_errors.specs.declared.errors.Error.{Error}
use Rattle.sourcemap_errors.specs.declared.errors.Error.TheVariants.{IncompatibleSourceMap, OutOfMemory}
use Rattle.sourcemap_compiled_write.specs.declared.errors.WriteError.{WriteError}
use Rattle.sourcemap_compiled_write.specs.declared.errors.WriteError.TheVariants.{OutOfMemory as NoMemory, TooLarge as FileTooLarge}
use Rattle.sourcemap_cache.specs.declared.errors.CompileError.{CompileError}
use Rattle.sourcemap_cache.specs.declared.errors.CompileError.TheVariants.{Map, TooLarge}

-- the displayed text of an error; `None` for the errors of std, whose texts std does not specify
abbrev pub error_text : CompileError → Option (List ℕ)
error_text (Map error) = map_error_text error
error_text TooLarge = Some (codes "the map is too large to be compiled")

-- an error of the writer
abbrev pub of_writer : WriteError → CompileError
of_writer FileTooLarge = TooLarge
of_writer NoMemory = Map OutOfMemory

-- an error of `compile` as one of `sourcemap`
abbrev pub as_error : CompileError → Error
as_error (Map error) = error
as_error TooLarge = IncompatibleSourceMap
