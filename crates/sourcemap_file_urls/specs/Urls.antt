-- The results of parsing a URL.
use Rattle.std.specs.Prelude.{◌≡◌, ℕ, ◌+◌, ◌^◌, ◌≤◌, ◌⊎◌, List, length, Option, Some, None, Result, Ok, Err, IsErr}
use Rattle.url.specs.Parts.{Parts, serialize}
use Rattle.url.specs.Parser.{Parsed, parse_url}
use Rattle.sourcemap_errors.specs.declared.errors.Error.{Error}
use Rattle.sourcemap_errors.specs.declared.errors.Error.TheVariants.{OutOfMemory}

-- texts that together have `size` bytes are long if `size` is 2^28 or more; a URL that is made of shorter texts has
-- less than 4 GB, even with its escapes
abbrev pub IsLong : ℕ → Type 0
IsLong size = 2 ^ 28 ≤ size

-- what `parse` or `join` may return for texts that together have `size` bytes. `parsed` is the result that `parse_url`
-- specifies for these texts. A returned URL is the URL in `parsed`. `None` is returned only if `parsed` is an error or
-- the texts are long. The only error is `OutOfMemory`
abbrev pub ReadsAs : ℕ → Parsed Parts → Result (Option Parts) Error → Type 0
ReadsAs size parsed (Ok (Some url)) = parsed ≡ Ok url
ReadsAs size parsed (Ok None) = IsErr parsed ⊎ IsLong size
ReadsAs size parsed (Err e) = e ≡ OutOfMemory

-- the result is the URL of the text, or another result that `ReadsAs` allows
abbrev pub UrlOf : List ℕ → Result (Option Parts) Error → Type 0
UrlOf text answer = ReadsAs (length text) (parse_url None text) answer

-- the result is the URL of a reference resolved against a base, or another result that `ReadsAs` allows
abbrev pub JoinedUrl : Parts → List ℕ → Result (Option Parts) Error → Type 0
JoinedUrl base reference answer =
    ReadsAs (length (serialize base) + length reference) (parse_url (Some base) reference) answer
