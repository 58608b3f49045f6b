-- The file to which the first reference in a text leads.
use Rattle.std.specs.Prelude.{◌≡◌, ℕ, false, List, Option, Some, None, Result, Ok, IsErrAnd}
use Rattle.sourcemap_json.specs.Places.{url_text}
use Rattle.sourcemap_json.specs.Reference.{Reference, usual, legacy}
use Rattle.sourcemap_json.specs.References.{IsInvalidData}
use Rattle.sourcemap_json.specs.Resolution.{IsLongJoin, UnlessLong, resolved_path}
use Rattle.sourcemap_json.specs.declared.errors.Error.{Error}

-- the path that `url` resolves to against `path`, or `None`. The answer may also be `None` for a long join
abbrev pub PathOfUrl : (url path : List ℕ) → Result (Option (List ℕ)) Error → Type 0
PathOfUrl url path answer = UnlessLong (resolved_path path url) (IsLongJoin (url_text path false) url) answer

-- the file for the `first_reference` of a text at `path`. For `None`, a line is not UTF-8, and no earlier line has a
-- reference: the answer is the error `Io` of kind `InvalidData`. For `Some None`, no line has a reference
abbrev pub FileOfReference : Option (Option Reference) → (path : List ℕ) → Result (Option (List ℕ)) Error → Type 0
FileOfReference None path answer = IsErrAnd answer IsInvalidData
FileOfReference (Some None) path answer = answer ≡ Ok None
FileOfReference (Some (Some (usual url))) path answer = PathOfUrl url path answer
FileOfReference (Some (Some (legacy url))) path answer = PathOfUrl url path answer
