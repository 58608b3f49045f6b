-- Where the map of a generated text is. The first reference in the text and the path of the text determine the answer.
use Rattle.std.specs.Prelude.{◌≡◌, ℕ, false, List, Option, Some, None, string_bytes, MatchOption, Result, Ok, IsErrAnd}
use Rattle.sourcemap.specs.AnyMap.{map_tree}
use Rattle.sourcemap.specs.Embedded.{EmbeddedAnswer}
use Rattle.sourcemap.specs.Places.{url_text}
use Rattle.sourcemap.specs.Reference.{Reference, usual, legacy}
use Rattle.sourcemap.specs.References.{IsInvalidData}
use Rattle.sourcemap.specs.Resolution.{IsLongJoin, UnlessLong, resolved_path}
use Rattle.sourcemap.specs.TreeDecoder.{Then}
use Rattle.sourcemap.specs.Trees.{MapTree}
use Rattle.sourcemap.specs.declared.errors.Error.{Error}
use Rattle.sourcemap_uses.specs.declared.finding.FoundMap.{FoundMap}
use Rattle.sourcemap_uses.specs.declared.finding.FoundMap.TheVariants.{Embedded, File, Nowhere}

-- the map embedded in a generated text, the path of the file with the map, or neither
pub data FoundValue : Type 0 where
  embedded : MapTree → FoundValue
  file : List ℕ → FoundValue
  nowhere : FoundValue

abbrev pub found_value : FoundMap → FoundValue
found_value (Embedded map) = embedded (map_tree map)
found_value (File path) = file (string_bytes path)
found_value Nowhere = nowhere

abbrev pub file_at : Option (List ℕ) → FoundValue
file_at (Some path) = file path
file_at None = nowhere

-- the file that `url` resolves to against `path`, the path of the text that has the URL. The answer is `nowhere` if
-- `resolved_path` is `None`. The answer may also be `nowhere` if the `file` URL of `path` has 2^28 bytes or more, or if
-- `url` and the parsed `file` URL together have 2^28 bytes or more (`IsLongJoin`). The only error is `OutOfMemory`
abbrev pub FileOfUrl : List ℕ → List ℕ → Result FoundValue Error → Type 0
FileOfUrl url path answer =
    Then (UnlessLong (resolved_path path url) (IsLongJoin (url_text path false) url))
    (λ found a. a ≡ Ok (file_at found)) answer

-- the map embedded in a `data:` URL, or the error of decoding this URL; for any other URL, the file that the URL
-- resolves to, or `nowhere`
abbrev pub MapOfUrl : List ℕ → List ℕ → Result FoundValue Error → Type 0
MapOfUrl url path answer =
    Then (EmbeddedAnswer url) (λ held a. MatchOption held (FileOfUrl url path a) (λ m. a ≡ Ok (embedded m))) answer

abbrev pub url_in : Reference → List ℕ
url_in (usual url) = url
url_in (legacy url) = url

-- where the map of a text is; `path` is the path of the text. The first argument is the `first_reference` of the text.
-- For `None`, the answer is the error `Io` of kind `InvalidData`: a line is not UTF-8, and no earlier line has a
-- reference. For `Some None`, the answer is `nowhere`: all lines are UTF-8, and no line has a reference. For
-- `Some (Some reference)`, `MapOfUrl` determines the answer for the URL of `reference`
abbrev pub MapByReference : Option (Option Reference) → List ℕ → Result FoundValue Error → Type 0
MapByReference None path answer = IsErrAnd answer IsInvalidData
MapByReference (Some None) path answer = answer ≡ Ok nowhere
MapByReference (Some (Some reference)) path answer = MapOfUrl (url_in reference) path answer
