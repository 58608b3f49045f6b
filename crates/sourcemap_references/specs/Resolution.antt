-- The URL and the path of a reference, resolved against the file that holds it.
use Rattle.std.specs.Prelude.{◌≡◌, ◌⊎◌, ℕ, ◌+◌, Bool, false, if◌then◌else◌, List, length, codes, nat_eq, Option, Some}
use Rattle.std.specs.Prelude.{None, option_map, Result, Ok, Err, IsOkAnd}
use Rattle.std.specs.List.{starts_with}
use Rattle.std.specs.Result.{result_ok}
use Rattle.url.specs.Parts.{serialize}
use Rattle.url.specs.Parser.{and_then, parse_url}
use Rattle.sourcemap_errors.specs.declared.errors.Error.{Error}
use Rattle.sourcemap_errors.specs.declared.errors.Error.TheVariants.{OutOfMemory}
use Rattle.sourcemap_file_urls.specs.Places.{resolved_file_path}
use Rattle.sourcemap_file_urls.specs.Urls.{IsLong}

-- the URL starts with `data:`, in lower case. Such a URL contains the source map itself
abbrev pub is_data_url : List ℕ → Bool
is_data_url url = starts_with nat_eq url (codes "data:")

-- a URL resolved against a base; `None` if either URL is rejected
abbrev pub joined : List ℕ → List ℕ → Option (List ℕ)
joined base url = option_map serialize (result_ok (and_then (parse_url None base) (λ from. parse_url (Some from) url)))

-- a reference resolved against the URL of its file; `None` for a `data:` URL, or if either URL is rejected
abbrev pub resolved : List ℕ → List ℕ → Option (List ℕ)
resolved base url = if is_data_url url then None else joined base url

-- the file path of the reference `url`, resolved against the `file` URL of `path`. `None` in four cases: `url` is a
-- `data:` URL; `path` is not absolute; `url` or the `file` URL of `path` is rejected; or the resolved URL has no file
-- path
abbrev pub resolved_path : List ℕ → List ℕ → Option (List ℕ)
resolved_path path url = if is_data_url url then None else resolved_file_path path false url

-- a long join: `base` has 2^28 bytes or more, or the parsed `base` and `url` have 2^28 bytes or more in total. The
-- second case requires that `base` is not rejected. Parsing and resolving may add escapes, so the parsed `base` or the
-- resolved URL of a long join may exceed 4 GB
abbrev pub IsLongJoin : List ℕ → List ℕ → Type 0
IsLongJoin base url =
    IsLong (length base) ⊎ IsOkAnd (parse_url None base) (λ from. IsLong (length (serialize from) + length url))

-- the result is `due`, or out of memory; if `long` holds, the result may also be `None`
abbrev pub UnlessLong : {X : Type 0} → Option X → Type 0 → Result (Option X) Error → Type 0
UnlessLong due long (Ok None) = (due ≡ None) ⊎ long
UnlessLong due long (Ok (Some x)) = due ≡ Some x
UnlessLong due long (Err e) = e ≡ OutOfMemory
