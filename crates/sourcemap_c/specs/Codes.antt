-- Codes, reports and values that a call returns or writes.
use Rattle.std.specs.Prelude.{◌≡◌, ◌≢◌, ◌⊎◌, ℕ, List, Bool, true, cond, Option, Some, None, Result, MatchResult}
use Rattle.std.specs.Str.{IsUtf8}
use Rattle.sourcemap_errors.specs.declared.errors.Error.{Error}
use Rattle.sourcemap_errors.specs.declared.errors.Error.TheVariants.{OutOfMemory, Utf8}
use Rattle.sourcemap_c_handles.specs.Errors.{Reports}
use Rattle.sourcemap_c_handles.specs.declared.errors.ErrorReport.{ErrorReport}
use Rattle.sourcemap_c_handles.specs.declared.errors.Failure.{Failure}
use Rattle.sourcemap_c_handles.specs.declared.errors.Failure.TheVariants.{Library, Absent, WrongKind, PastLimit}

-- true for the failure `Library OutOfMemory`; `P` for any other failure
abbrev pub UnlessMemory : Failure → Type 0 → Type 0
UnlessMemory (Library OutOfMemory) P = Unit {0}
UnlessMemory _ P = P

-- The result of a call. After success `Done` holds. After a failure `Kept` holds, and the failure is one that `Due`
-- allows, or out of memory.
abbrev pub Does : {T : Type 0} → Result T Failure → (Done : Type 0) → (Due : Failure → Type 0) → (Kept : Type 0)
    → Type 0
Does result Done Due Kept = MatchResult result (λ _. Done) (λ failure. UnlessMemory failure (Due failure) × Kept)

-- The code and the error report that a call returns and writes. After success `Done` holds, and the report is
-- unchanged. After a failure `Kept` holds, and the report is of a failure that `Due` allows, or of out of memory.
pub record Answers (code : ℕ) (old new : ErrorReport) (Done : Type 0) (Due : Failure → Type 0) (Kept : Type 0) : Type 0 where
  pub done : code ≡ 0 → Done
  pub silent : code ≡ 0 → new ≡ old
  pub failed : code ≢ 0 → (failure : Failure) × Reports failure code old new × UnlessMemory failure (Due failure)
  pub kept : code ≢ 0 → Kept

-- the failure is an error of the library that `Due` allows
abbrev pub OfLibrary : (Error → Type 0) → Failure → Type 0
OfLibrary Due (Library e) = Due e
OfLibrary Due _ = ⊥

-- `Due` says which errors of the library are allowed. `WrongKind` is allowed if `wrong` holds. No other failure is
-- allowed.
abbrev pub OfLibraryOrKind : (Error → Type 0) → (wrong : Type 0) → Failure → Type 0
OfLibraryOrKind Due wrong (Library e) = Due e
OfLibraryOrKind Due wrong WrongKind = wrong
OfLibraryOrKind Due wrong _ = ⊥

-- `Due` says which errors of the library are allowed. `WrongKind` is allowed if `wrong` holds. `Absent` is allowed if
-- `absent` holds. No other failure is allowed.
abbrev pub OfLibraryKindOrAbsent : (Error → Type 0) → (wrong absent : Type 0) → Failure → Type 0
OfLibraryKindOrAbsent Due wrong absent (Library e) = Due e
OfLibraryKindOrAbsent Due wrong absent WrongKind = wrong
OfLibraryKindOrAbsent Due wrong absent Absent = absent
OfLibraryKindOrAbsent Due wrong absent PastLimit = ⊥

-- No error of the library is allowed, not even out of memory. `Does` and `Answers` allow out of memory themselves.
abbrev pub NoError : Error → Type 0
NoError e = ⊥

-- the error `Utf8`, for bytes that are not UTF-8
abbrev pub IsNoText : List ℕ → Error → Type 0
IsNoText bytes (Utf8 _) = ¬ IsUtf8 bytes
IsNoText bytes _ = ⊥

-- an optional text: `text` if `present` is true, otherwise `None`
abbrev pub text_if : Bool → List ℕ → Option (List ℕ)
text_if present text = cond present (Some text) None

-- The code and the value of a call that writes no report. The code is `SM_WRONG_KIND` if the handle is not of the kind
-- that the call needs (`None`), and `SM_ABSENT` if there is no value (`Some None`). Otherwise the code is `SM_OK`. The
-- call writes the value only if it returns `SM_OK`.
abbrev pub ReturnsValue : {X : Type 0} → Option (Option X) → (code : ℕ) → (old new : X) → Type 0
ReturnsValue None code old new = (code ≡ 33) × (new ≡ old)
ReturnsValue (Some None) code old new = (code ≡ 32) × (new ≡ old)
ReturnsValue (Some (Some x)) code old new = (code ≡ 0) × (new ≡ x)

-- the call returns `SM_OK`, or it returns `SM_ABSENT` and writes nothing
abbrev pub IsAbsentUnlessOk : {X : Type 0} → (code : ℕ) → (old new : X) → Type 0
IsAbsentUnlessOk code old new = code ≢ 0 → (code ≡ 32) × (new ≡ old)

-- `present` is true, and the failure is that the bytes are not UTF-8
abbrev pub IsNoTextIf : (present : Bool) → List ℕ → Failure → Type 0
IsNoTextIf true bytes (Library e) = IsNoText bytes e
IsNoTextIf _ bytes _ = ⊥

-- either `present` is true and the failure is that the bytes are not UTF-8, or `Due` allows the failure
abbrev pub OrNoText : (present : Bool) → List ℕ → (Failure → Type 0) → Failure → Type 0
OrNoText present bytes Due failure = IsNoTextIf present bytes failure ⊎ Due failure
