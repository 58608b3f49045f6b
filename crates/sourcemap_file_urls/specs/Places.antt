-- The URLs of absolute paths of files, and the paths of `file` URLs.
use Rattle.std.specs.Prelude.{◌≡◌, ℕ, ◌+◌, ◌⊎◌, ◌==◌, Bool, not, ◌&&◌, ◌||◌, if◌then◌else◌, List, [], ◌++◌, length}
use Rattle.std.specs.Prelude.{slice_index, filter, flat_map, codes, bytes_eq, Option, Some, None, Result, Ok, Err}
use Rattle.std.specs.Bool.{MatchBool}
use Rattle.std.specs.Char.{is_ascii_alphanumeric}
use Rattle.std.specs.Str.{is_utf8}
use Rattle.std.specs.Result.{result_ok}
use Rattle.std.specs.List.{slice_split}
use Rattle.std.specs.Option.{option_and_then}
use Rattle.percent_encoding.specs.Percent.{percent_encode, percent_decode}
use Rattle.url.specs.Parts.{Parts, has_host, serialize}
use Rattle.url.specs.Parser.{Parsed, and_then, parse_url}
use Rattle.sourcemap_errors.specs.declared.errors.Error.{Error}
use Rattle.sourcemap_errors.specs.declared.errors.Error.TheVariants.{OutOfMemory}
use Rattle.sourcemap_file_urls.specs.declared.places.TheConstants.{ESCAPED}
use Rattle.sourcemap_file_urls.specs.Urls.{IsLong, UrlOf}

-- `/`
abbrev pub is_slash : ℕ → Bool
is_slash byte = byte == 47

-- a path is absolute if it starts with `/`
abbrev pub starts_at_root : List ℕ → Bool
starts_at_root path = is_slash (slice_index path 0)

-- a part of a path that is neither empty nor `.`
abbrev pub is_component : List ℕ → Bool
is_component part = not (bytes_eq part []) && not (bytes_eq part (codes "."))

-- the components between the slashes of a path
abbrev pub components : List ℕ → List (List ℕ)
components path = filter is_component (slice_split is_slash path)

-- the end of a URL: `/` for a folder and for a path without components, otherwise empty
abbrev pub end_text : Bool → List (List ℕ) → List ℕ
end_text folder parts = if folder || (length parts == 0) then codes "/" else []

-- a byte that stands unescaped in a component: a letter, a digit, `-`, `.`, `_` or `~`
abbrev pub is_unreserved : ℕ → Bool
is_unreserved byte = is_ascii_alphanumeric byte || (byte == 45) || (byte == 46) || (byte == 95) || (byte == 126)

-- for each component: `/`, then the component, escaped
abbrev pub escaped : List (List ℕ) → List ℕ
escaped parts = flat_map (λ part. codes "/" ++ percent_encode ESCAPED part) parts

-- the text that is parsed to the URL of a path; it still contains each `..` of the path
abbrev pub url_text : List ℕ → Bool → List ℕ
url_text path folder = codes "file://" ++ escaped (components path) ++ end_text folder (components path)

-- if the path is absolute, `UrlOf` holds for the path's `url_text` and the result. Otherwise the result is `None`
abbrev pub PathUrl : List ℕ → Bool → Result (Option Parts) Error → Type 0
PathUrl path folder answer = MatchBool (starts_at_root path) (UrlOf (url_text path folder) answer) (answer ≡ Ok None)

-- the bytes if they are UTF-8, otherwise `None`
abbrev pub text_of : List ℕ → Option (List ℕ)
text_of bytes = if is_utf8 bytes then Some bytes else None

-- the path of a `file` URL without host, with escapes decoded; `None` for any other URL, or if the path is not UTF-8
abbrev pub path_of : Parts → Option (List ℕ)
path_of url =
    if bytes_eq url.scheme (codes "file") && not (has_host url) then text_of (percent_decode url.path) else None

-- the file path of a reference that is resolved against the URL `base`; `None` if the reference is rejected, or if the
-- resolved URL has no file path
abbrev pub named_path : Parts → List ℕ → Option (List ℕ)
named_path base reference = option_and_then path_of (result_ok (parse_url (Some base) reference))

-- the result is `named_path`, or the error `OutOfMemory`. If the texts of the base and the reference together are long
-- (`IsLong`), the result may also be `None`
abbrev pub NamesPath : Parts → List ℕ → Result (Option (List ℕ)) Error → Type 0
NamesPath base reference (Ok None) =
    (named_path base reference ≡ None) ⊎ IsLong (length (serialize base) + length reference)
NamesPath base reference (Ok (Some path)) = named_path base reference ≡ Some path
NamesPath base reference (Err e) = e ≡ OutOfMemory

-- a reference resolved by `parse_url` against the `file` URL of `path`; an error if the text of this `file` URL is
-- rejected, or if the reference is rejected
abbrev pub joined : List ℕ → Bool → List ℕ → Parsed Parts
joined path folder reference =
    and_then (parse_url None (url_text path folder)) (λ base. parse_url (Some base) reference)

-- the file path of a reference that is resolved against the `file` URL of `path`; `None` if `path` is not absolute, if
-- `joined` is an error, or if the resolved URL has no file path
abbrev pub resolved_file_path : List ℕ → Bool → List ℕ → Option (List ℕ)
resolved_file_path path folder reference =
    if starts_at_root path then option_and_then path_of (result_ok (joined path folder reference)) else None
