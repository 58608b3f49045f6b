-- The reference and the URL in a `SourceMapRef`, and the results of a search for a reference.
use Rattle.std.specs.Prelude.{◌≡◌, ◌≢◌, ℕ, List, Option, None, Some, Result, Ok, Err, IfSome, option_map, string_bytes}
use Rattle.std.specs.IoError.{error_kind}
use Rattle.std.specs.declared.io.ErrorKind.TheVariants.{InvalidData, Interrupted}
use Rattle.sourcemap_errors.specs.Answer.{UnlessMemory}
use Rattle.sourcemap_errors.specs.Errors.{FromIo}
use Rattle.sourcemap_errors.specs.declared.errors.Error.{Error}
use Rattle.sourcemap_errors.specs.declared.errors.Error.TheVariants.{Io}
use Rattle.sourcemap_references.specs.Reference.{Reference, usual, legacy, first_reference}
use Rattle.sourcemap_references.specs.declared.detector.SourceMapRef.{SourceMapRef}
use Rattle.sourcemap_references.specs.declared.detector.SourceMapRef.TheVariants.{Ref, LegacyRef}

-- the URL of a `SourceMapRef`, with its kind of mark
abbrev pub reference : SourceMapRef → Reference
reference (Ref url) = usual (string_bytes url)
reference (LegacyRef url) = legacy (string_bytes url)

-- the URL of a `SourceMapRef`
abbrev pub url_of : SourceMapRef → List ℕ
url_of (Ref url) = string_bytes url
url_of (LegacyRef url) = string_bytes url

-- the error for bytes that are not UTF-8: `Io` of kind `InvalidData`
abbrev pub IsInvalidData : Error → Type 0
IsInvalidData (Io cause) = error_kind cause ≡ InvalidData
IsInvalidData _ = ⊥

-- what a search for a reference returns. If `due` is `Some (Some r)`, the search returns the reference `r`. If `due` is
-- `Some None`, the search returns `Ok None`. If `due` is `None`, a line is not UTF-8, and the search returns `Io` of
-- kind `InvalidData`. For each `due`, the search may also return the error `OutOfMemory`
abbrev pub Locates : Result (Option SourceMapRef) Error → Option (Option Reference) → Type 0
Locates (Ok found) due = due ≡ Some (option_map reference found)
Locates (Err e) due = UnlessMemory e ((due ≡ None) × IsInvalidData e)

-- an error of a read, or of a search in a reader: `OutOfMemory`, or `Io` of any kind except `OutOfMemory` and
-- `Interrupted`, since interrupted reads are retried
abbrev pub IsReadError : Error → Type 0
IsReadError (Io cause) = FromIo cause (Io cause) × (error_kind cause ≢ Interrupted)
IsReadError e = UnlessMemory e ⊥

-- what a search in a reader returns. If `known` has the bytes of the reader, an `Ok` has the `first_reference` of these
-- bytes. If `known` is `None`, any `Ok` is allowed. An error is an `IsReadError`
abbrev pub LocatesRead : Option (List ℕ) → Result (Option SourceMapRef) Error → Type 0
LocatesRead known (Ok found) = IfSome known (λ text. first_reference text ≡ Some (option_map reference found))
LocatesRead known (Err e) = IsReadError e
