-- How an error that ended a run is reported.
use Rattle.std.specs.Prelude.{◌≡◌, ℕ, List, ◌++◌, Option, IfSome}
use Rattle.std.specs.Io.KnownBytes.{Appends}
use Rattle.std.specs.IoError.{error_kind}
use Rattle.std.specs.declared.io.ErrorKind.TheVariants.{BrokenPipe}
use Rattle.sourcemap.specs.Errors.{error_text}
use Rattle.sourcemap.specs.declared.errors.Error.{Error}
use Rattle.sourcemap.specs.declared.errors.Error.TheVariants.{Io}
use Rattle.sourcemap_cli.specs.Lines.{newline}

-- an error of writing to a closed pipe
abbrev pub IsReaderGone : Error → Type 0
IsReaderGone (Io cause) = error_kind cause ≡ BrokenPipe
IsReaderGone _ = ⊥

-- the text of an error and a newline were written; for an error of std nothing is stated, since std does not specify
-- its text
abbrev pub IsErrorPrinted : Error → Option (List ℕ) → Option (List ℕ) → Type 0
IsErrorPrinted e old new = IfSome (error_text e) (λ text. Appends old new (text ++ newline))
