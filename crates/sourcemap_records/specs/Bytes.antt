-- The JSON value that bytes hold, and the record of this value. The errors for bytes without a JSON value, and for
-- bytes without a record. The possible results of decoding a JSON value, bytes or a data URL. The equality of results.
-- The possible results of a call that reads bytes from a reader.
use Rattle.std.specs.Prelude.{◌≡◌, ◌⊎◌, ℕ, List, Option, Some, None, IfSome, MatchOption, Result, Ok, Err, IsErrAnd, IsUtf8}
use Rattle.std.specs.IoError.{error_kind}
use Rattle.std.specs.declared.io.Error.{Error as IoError}
use Rattle.std.specs.declared.io.ErrorKind.TheVariants.{InvalidData}
use Rattle.serde_json.specs.Data.{Data}
use Rattle.serde_json.specs.Read.{read}
use Rattle.sourcemap_errors.specs.declared.errors.Error.{Error}
use Rattle.sourcemap_errors.specs.declared.errors.Error.TheVariants.{Io, BadJson, InvalidDataUrl}
use Rattle.sourcemap_errors.specs.declared.errors.JsonFault.TheVariants.{Parse, Shape}
use Rattle.sourcemap_errors.specs.Answer.{UnlessMemory}
use Rattle.sourcemap_errors.specs.Errors.{FromIo}
use Rattle.sourcemap_headers.specs.Header.{after_header}
use Rattle.sourcemap_headers.specs.DataUrl.{Holds}
use Rattle.sourcemap_records.specs.Jsontypes.{Tree, record_of}

-- Bytes, JSON and records.

-- the JSON value of a text
abbrev pub IsJson : List ℕ → Data → Type 0
IsJson text d = IsUtf8 text × (read text ≡ Some d)

-- the JSON value of bytes; a junk header, if there is one, is dropped first
abbrev pub HoldJson : List ℕ → Data → Type 0
HoldJson bytes d = (text : List ℕ) × (after_header bytes ≡ Some text) × IsJson text d

-- the error for an invalid header
abbrev pub IsHeaderError : Error → Type 0
IsHeaderError e = (cause : IoError) × (e ≡ Io cause) × (error_kind cause ≡ InvalidData)

-- the error for bytes without a JSON value: the header is invalid, or the bytes after it are not JSON
abbrev pub HoldNoJson : List ℕ → Error → Type 0
HoldNoJson bytes e = MatchOption (after_header bytes) (IsHeaderError e)
    (λ text. ((d : Data) → ¬ IsJson text d) × (e ≡ BadJson Parse))

-- the record of the JSON value of bytes
abbrev pub HoldRecord : List ℕ → Tree → Type 0
HoldRecord bytes t = (d : Data) × HoldJson bytes d × (record_of d ≡ Some t)

-- the error for bytes without a record: they have no JSON value, or their JSON value is not a record
abbrev pub HoldNoRecord : List ℕ → Error → Type 0
HoldNoRecord bytes e =
    ((d : Data) × HoldJson bytes d × (record_of d ≡ None) × (e ≡ BadJson Shape)) ⊎ HoldNoJson bytes e

-- `Decodes` says which results are possible when a record is decoded. The next three definitions say which results are
-- possible when a JSON value, bytes or a data URL is decoded. If there is no record, the result is an error:
-- `InvalidDataUrl` for an invalid data URL, an error of `HoldNoJson` for bytes without a JSON value, or
-- `BadJson(Shape)` for a JSON value that is not a record.

-- a result of decoding a JSON value
abbrev pub ValueHasResult : {Y : Type 0} → (Tree → Result Y Error → Type 0) → Data → Result Y Error → Type 0
ValueHasResult Decodes d answer = MatchOption (record_of d) (answer ≡ Err (BadJson Shape)) (λ t. Decodes t answer)

-- a result of decoding bytes
abbrev pub BytesHaveResult : {Y : Type 0} → (Tree → Result Y Error → Type 0) → List ℕ → Result Y Error → Type 0
BytesHaveResult Decodes bytes answer =
    ((d : Data) × HoldJson bytes d × ValueHasResult Decodes d answer) ⊎ IsErrAnd answer (HoldNoJson bytes)

-- a result of decoding a data URL
abbrev pub UrlHasResult : {Y : Type 0} → (Tree → Result Y Error → Type 0) → List ℕ → Result Y Error → Type 0
UrlHasResult Decodes url answer =
    ((bytes : List ℕ) × Holds url bytes × BytesHaveResult Decodes bytes answer)
    ⊎ ((answer ≡ Err InvalidDataUrl) × ((bytes : List ℕ) → ¬ Holds url bytes))

-- Results.

-- two errors are the same; of two `Io` errors the kinds are compared
abbrev pub IsSameError : Error → Error → Type 0
IsSameError (Io e) (Io f) = error_kind e ≡ error_kind f
IsSameError e f = e ≡ f

-- two results are the same
abbrev pub AreSame : {Y : Type 0} → Result Y Error → Result Y Error → Type 0
AreSame (Ok m) (Ok n) = m ≡ n
AreSame (Err e) (Err f) = IsSameError e f
AreSame _ _ = ⊥

-- `P`, unless the error says that a read failed or that memory ran out. If a read runs out of memory, the error is
-- `OutOfMemory`, and not `Io`
abbrev pub UnlessReadFails : Error → Type 0 → Type 0
UnlessReadFails (Io cause) P = P ⊎ FromIo cause (Io cause)
UnlessReadFails e P = UnlessMemory e P

-- for `Ok x`, `Answers` holds for `Ok (view x)`. For `Err e`, `Answers` holds for `Err e`, or `e` says that a read
-- failed or that memory ran out
abbrev pub IsAnswerRead : {X Y : Type 0} → (X → Y) → (Result Y Error → Type 0) → Result X Error → Type 0
IsAnswerRead view Answers (Ok x) = Answers (Ok (view x))
IsAnswerRead view Answers (Err e) = UnlessReadFails e (Answers (Err e))

-- `known` is the list of unread bytes of a reader, or `None` if this list is unknown. If the list is known, `P` holds
-- for it. If the list is unknown, `P` holds for at least one list of bytes
abbrev pub Reading : Option (List ℕ) → (List ℕ → Type 0) → Type 0
Reading known P = (bytes : List ℕ) × IfSome known (λ remaining. bytes ≡ remaining) × P bytes
