-- Finding and resolving references to source maps.
use Rattle.std.specs.Prelude.{◌≡◌, ◌⊎◌, ℕ, List, Bool, true, false, Option, Some, None, Result, Ok, Err, string_bytes}
use Rattle.std.specs.Str.{IsUtf8}
use Rattle.std.specs.declared.alloc.Global.{Global}
use Rattle.std.specs.declared.string.String.{String}
use Rattle.sourcemap_errors.specs.declared.errors.Error.{Error}
use Rattle.sourcemap_c_handles.specs.declared.errors.Failure.{Failure}
use Rattle.sourcemap_c_handles.specs.declared.errors.Failure.TheVariants.{Library, Absent, WrongKind, PastLimit}
use Rattle.sourcemap_c_handles.specs.declared.held.Held.{Held}
use Rattle.sourcemap_references.specs.Reference.{Reference, usual, legacy}
use Rattle.sourcemap_errors.specs.Answer.{UnlessMemory as LibraryUnless}
use Rattle.sourcemap_file_urls.specs.Places.{url_text}
use Rattle.sourcemap_references.specs.References.{IsInvalidData, url_of}
use Rattle.sourcemap_references.specs.Resolution.{IsLongJoin, UnlessLong, resolved, resolved_path}
use Rattle.sourcemap_references.specs.declared.detector.SourceMapRef.{SourceMapRef}
use Rattle.sourcemap_c.specs.Codes.{Does, IsNoText, NoError, OfLibrary}
use Rattle.sourcemap_c.specs.Kinds.{bytes_in}
use Rattle.sourcemap_c.specs.declared.references.Base.{Base}

-- the handle has the URL of the reference, and `is_legacy` says whether the reference begins with `//@`
abbrev pub IsReference : Reference → Option Held → Bool → Type 0
IsReference (usual url) held is_legacy = (bytes_in held ≡ Some url) × (is_legacy ≡ false)
IsReference (legacy url) held is_legacy = (bytes_in held ≡ Some url) × (is_legacy ≡ true)

abbrev pub IsFound : Option (Option Reference) → Option Held → Bool → Type 0
IsFound (Some (Some reference)) held is_legacy = IsReference reference held is_legacy
IsFound _ held is_legacy = ⊥

-- Why no reference was found. The failure is `Absent` if all lines are UTF-8 and no line has a reference. The failure
-- is an `Io` error of the kind `InvalidData` if a line is not UTF-8 and no earlier line has a reference.
abbrev pub IsNotFound : Option (Option Reference) → Failure → Type 0
IsNotFound due (Library e) = (due ≡ None) × IsInvalidData e
IsNotFound due Absent = due ≡ Some None
IsNotFound due WrongKind = ⊥
IsNotFound due PastLimit = ⊥

-- both texts are UTF-8, and `Due` allows the result `due`
abbrev pub OfTexts : (url base : List ℕ) → (Result (Option (List ℕ)) Error → Type 0)
    → Result (Option (List ℕ)) Error → Type 0
OfTexts url base Due due = IsUtf8 url × IsUtf8 base × Due due

-- the handle has the resolved reference
abbrev pub LeadsTo : (url base : List ℕ) → (Result (Option (List ℕ)) Error → Type 0) → Option Held → Type 0
LeadsTo url base Due held = (text : List ℕ) × (bytes_in held ≡ Some text) × OfTexts url base Due (Ok (Some text))

-- Why there is no resolved reference. The failure is `Utf8` if `url` or `base` is not UTF-8. Otherwise the failure is
-- an error of the library that `Due` allows, or `Absent` if `Due` allows `Ok None`.
abbrev pub LeadsNowhere : (url base : List ℕ) → (Result (Option (List ℕ)) Error → Type 0) → Failure → Type 0
LeadsNowhere url base Due (Library e) = (IsNoText url e ⊎ IsNoText base e) ⊎ OfTexts url base Due (Err e)
LeadsNowhere url base Due Absent = OfTexts url base Due (Ok None)
LeadsNowhere url base Due WrongKind = ⊥
LeadsNowhere url base Due PastLimit = ⊥

-- the contract of a call that resolves the reference `url` against `base`; `Says` is `Does` or `Answers`
abbrev pub Leads : (Says : Type 0 → (Failure → Type 0) → Type 0 → Type 0) → (url base : List ℕ)
    → (Result (Option (List ℕ)) Error → Type 0) → (old new : Option Held) → Type 0
Leads Says url base Due old new = Says (LeadsTo url base Due new) (LeadsNowhere url base Due) (new ≡ old)

-- After success the handle has the resolved text. Otherwise the handle is unchanged. If resolving returned a text, the
-- only failure is out of memory. If resolving returned `None`, the call fails with `Absent`. If resolving returned an
-- error, the call fails with this error.
abbrev pub Puts : Result (Option (String Global)) Error → Result (Unit {0}) Failure → (old new : Option Held) → Type 0
Puts (Ok (Some text)) result old new =
    Does result (bytes_in new ≡ Some (string_bytes text)) (OfLibrary NoError) (new ≡ old)
Puts (Ok None) result old new = (result ≡ Err Absent) × (new ≡ old)
Puts (Err e) result old new = (result ≡ Err (Library e)) × (new ≡ old)

-- the result is a reference with this URL, the error `Utf8` if the URL is not UTF-8, or out of memory
abbrev pub Refers : Result SourceMapRef Error → List ℕ → Type 0
Refers (Ok found) url = (url_of found ≡ url) × IsUtf8 url
Refers (Err e) url = LibraryUnless e (IsNoText url e)

-- The call resolves the reference `url` against `base`, the URL of the generated text. The call returns
-- `resolved base url`. The call may instead return `None` if `base` has 2^28 bytes or more, or if `url` and the parsed
-- `base` together have 2^28 bytes or more. The only error is out of memory.
abbrev pub Resolves : (base url : List ℕ) → Result (Option (List ℕ)) Error → Type 0
Resolves base url = UnlessLong (resolved base url) (IsLongJoin base url)

-- The call resolves the reference `url` against `path`, the path of the generated text. The call returns
-- `resolved_path path url`. The call may instead return `None` if the `file` URL of `path` has 2^28 bytes or more, or
-- if `url` and the parsed `file` URL together have 2^28 bytes or more. The only error is out of memory.
abbrev pub ResolvesPath : (path url : List ℕ) → Result (Option (List ℕ)) Error → Type 0
ResolvesPath path url = UnlessLong (resolved_path path url) (IsLongJoin (url_text path false) url)

abbrev pub ResolvesBy : Base → (base url : List ℕ) → Result (Option (List ℕ)) Error → Type 0
ResolvesBy Base.Url base url = Resolves base url
ResolvesBy Base.Path base url = ResolvesPath base url
