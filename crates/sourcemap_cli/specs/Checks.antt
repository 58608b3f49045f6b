-- The reply of `check`, and the files that it reads.
use Rattle.std.specs.Prelude.{◌≡◌, ℕ, ◌<◌, ◌==◌, ◌||◌, Bool, true, false, List, [], codes, length, nat_eq, if◌then◌else◌, unwrap_or, IsUtf8}
use Rattle.std.specs.Prelude.{Option, Some, None, option_map, Result, Ok, Err, Vec}
use Rattle.std.specs.List.{list_any, slice_split, starts_with}
use Rattle.std.specs.Path.{path_join}
use Rattle.std.specs.Str.{bytes_eq}
use Rattle.std.specs.declared.alloc.Global.{Global}
use Rattle.std.specs.IoError.{error_kind}
use Rattle.std.specs.declared.io.ErrorKind.{ErrorKind}
use Rattle.std.specs.declared.io.ErrorKind.TheVariants.{NotFound, IsADirectory, NotADirectory, InvalidInput, InvalidFilename}
use Rattle.std.specs.declared.str.Utf8Error.{Utf8Error}
use Rattle.sourcemap.specs.declared.errors.Error.{Error}
use Rattle.sourcemap.specs.declared.errors.Error.TheVariants.{Io, Utf8}
use Rattle.sourcemap.specs.Decoder.{UnlessReadFails}
use Rattle.sourcemap_tokens.specs.Items.{item_at}
use Rattle.sourcemap_records.specs.Bytes.{BytesHaveResult}
use Rattle.sourcemap_map_regular.specs.Map.{MapValue, source_of}
use Rattle.sourcemap_check_suspicious.specs.Reading.{TextMapDecodes, TextMapValue}
use Rattle.sourcemap_check_suspicious.specs.Suspects.{Files}
use Rattle.sourcemap_check_print.specs.Findings.{HasVerdict}
use Rattle.sourcemap_check_print.specs.Print.{IsReportOf}
use Rattle.sourcemap_check_print.specs.declared.findings.Verdict.{Verdict}
use Rattle.sourcemap_check_print.specs.declared.findings.Verdict.TheVariants.{Invalid, Doubtful, Right}
use Rattle.sourcemap_check_print.specs.declared.print.TheConstants.{MOST}
use Rattle.sourcemap_cli.specs.Checking.{name_in}
use Rattle.sourcemap_cli.specs.declared.checking.Checking.{Checking}
use Rattle.sourcemap_cli.specs.declared.checking.Strictness.{Strictness}
use Rattle.sourcemap_cli.specs.declared.checking.Strictness.TheVariants.{Usual, Strict}
use Rattle.sourcemap_cli.specs.declared.program.Reply.{Reply}

-- whether a verdict lets a check pass. What looks wrong fails a strict check
abbrev pub passes : Strictness → Verdict → Bool
passes strictness Invalid = false
passes Usual Doubtful = true
passes Strict Doubtful = false
passes strictness Right = true

-- the bytes have a verdict that lets the check pass, or not
abbrev pub Judges : (passing : Bool) → Checking → (bytes : List ℕ) → (generated : Option (List ℕ)) → Files → Type 0
Judges passing checking bytes generated files =
    (verdict : Verdict) × HasVerdict MOST verdict bytes generated (name_in checking) files
    × (passes checking.strictness verdict ≡ passing)

-- the reply for a report: its status is 0 if the check passes, otherwise 1
pub record IsReportReply (checking : Checking) (bytes : List ℕ) (generated : Option (List ℕ)) (files : Files)
    (reply : Reply) : Type 0 where
  pub report : IsReportOf checking.form bytes generated (name_in checking) files reply.output.items
  pub verdict : Verdict
  pub has_verdict : HasVerdict MOST verdict bytes generated (name_in checking) files
  pub status_is : reply.status ≡ (if passes checking.strictness verdict then 0 else 1)

-- the generated text, if a file is named for it; or the error of reading it, or that it is not UTF-8
abbrev pub ReadsGenerated : (is_named : Bool) → (file : Result (List ℕ) Error) → Result (Option (List ℕ)) Error → Type 0
ReadsGenerated false file answer = answer ≡ Ok None
ReadsGenerated true (Ok bytes) (Ok generated) = IsUtf8 bytes × (generated ≡ Some bytes)
ReadsGenerated true (Ok bytes) (Err e) = (¬ IsUtf8 bytes) × ((cause : Utf8Error) × (e ≡ Utf8 cause))
ReadsGenerated true (Err e) answer = answer ≡ Err e

-- a part of the path is `..`
abbrev pub has_parent : (path : List ℕ) → Bool
has_parent path = list_any (λ part. bytes_eq part (codes "..")) (slice_split (λ b. b == 47) path)

-- a path is absolute, or has a part `..`
abbrev pub leads_out : (path : List ℕ) → Bool
leads_out path = starts_with nat_eq path (codes "/") || has_parent path

-- the path of a source below a folder, unless it leads out of the folder
abbrev pub below : (folder source : List ℕ) → Option (List ℕ)
below folder source = if leads_out source then None else Some (path_join folder source)

-- a source that leads out of the folder has no file
abbrev pub StaysBelow : (source : List ℕ) → (file : Option (List ℕ)) → Type 0
StaysBelow source file = leads_out source ≡ true → file ≡ None

-- there is a file or none for each source, and none for those that lead out of the folder
pub record AreBelow (m : MapValue) (files : List (Option (List ℕ))) : Type 0 where
  pub count : length files ≡ length m.sources
  pub each : (i : ℕ) → i < length m.sources → StaysBelow (unwrap_or (source_of m i) []) (item_at files i)

-- the files of the sources of a decoded map; none if there is an error
abbrev pub AreOf : Result TextMapValue Error → (files : List (Option (List ℕ))) → Type 0
AreOf (Ok m) files = AreBelow m.map files
AreOf (Err e) files = files ≡ []

-- the files of the sources of the map that bytes decode to. std does not specify what is read of a file
abbrev pub AreSourceFiles : (bytes : List ℕ) → (files : List (Option (List ℕ))) → Type 0
AreSourceFiles bytes files =
    (decoded : Result TextMapValue Error) × BytesHaveResult TextMapDecodes bytes decoded × AreOf decoded files

-- an error of opening or reading a file, or `OutOfMemory`
abbrev pub IsReadFailure : Error → Type 0
IsReadFailure e = UnlessReadFails e ⊥

-- the files of sources that a check reads if a folder is named for them, or the error of reading one
abbrev pub ReadsFiles : (is_named : Bool) → (bytes : List ℕ) → Result Files Error → Type 0
ReadsFiles false bytes answer = answer ≡ Ok None
ReadsFiles true bytes (Ok (Some files)) = AreSourceFiles bytes files
ReadsFiles true bytes (Ok None) = ⊥
ReadsFiles true bytes (Err e) = IsReadFailure e

abbrev pub texts_of : Option (Vec (Option (List ℕ)) Global) → Files
texts_of files = option_map (λ texts. texts.items) files

abbrev pub files_read : Result (Option (Vec (Option (List ℕ)) Global)) Error → Result Files Error
files_read (Ok files) = Ok (texts_of files)
files_read (Err e) = Err e

-- there is no file of a name
abbrev pub is_missing_kind : ErrorKind → Bool
is_missing_kind NotFound = true
is_missing_kind IsADirectory = true
is_missing_kind NotADirectory = true
is_missing_kind InvalidInput = true
is_missing_kind InvalidFilename = true
is_missing_kind _ = false

abbrev pub is_missing : Error → Bool
is_missing (Io cause) = is_missing_kind (error_kind cause)
is_missing _ = false
