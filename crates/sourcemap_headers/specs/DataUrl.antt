-- Data URLs of source maps. Such a URL starts with `data:application/json`. Then `;charset=utf-8` or `;charset=utf8`
-- may follow. The rest is `;base64,` and base64 text.
use Rattle.std.specs.Prelude.{◌≡◌, ℕ, List, ◌++◌, drop, length, codes, nat_eq, Option, Some, None, option_and_then}
use Rattle.std.specs.Prelude.{unwrap_or, if◌then◌else◌, Result, Ok, Err}
use Rattle.std.specs.List.{starts_with}
use Rattle.std.specs.Option.{option_or}
use Rattle.base64.specs.Engines.{standard}
use Rattle.base64.specs.GeneralPurpose.{encode_of, IsBytes}
use Rattle.sourcemap_errors.specs.declared.errors.Error.{Error}
use Rattle.sourcemap_errors.specs.declared.errors.Error.TheVariants.{InvalidDataUrl}

-- the text after `front`, or `None` if the text does not begin with `front`
abbrev pub after_front : List ℕ → List ℕ → Option (List ℕ)
after_front front text = if starts_with nat_eq text front then Some (drop (length front) text) else None

-- if the text starts with `;charset=utf-8` or `;charset=utf8`, the rest of the text; otherwise the whole text
abbrev pub without_charset : List ℕ → List ℕ
without_charset text =
    unwrap_or (option_or (after_front (codes ";charset=utf-8") text) (after_front (codes ";charset=utf8") text)) text

-- the base64 text after `;base64,`; `None` if the URL does not begin as a data URL of a source map
abbrev pub body_of : List ℕ → Option (List ℕ)
body_of url = option_and_then (λ rest. after_front (codes ";base64,") (without_charset rest)) (after_front
    (codes "data:application/json") url)

-- each number in `bytes` is below 256, and the base64 text of `url` equals the encoding of `bytes` in standard base64
-- with padding
abbrev pub Holds : List ℕ → List ℕ → Type 0
Holds url bytes = IsBytes bytes × (body_of url ≡ Some (encode_of standard bytes))

-- the result of decoding a data URL
abbrev pub DataUrlAnswer : List ℕ → Result (List ℕ) Error → Type 0
DataUrlAnswer url (Ok bytes) = Holds url bytes
DataUrlAnswer url (Err e) = (e ≡ InvalidDataUrl) × ((bytes : List ℕ) → ¬ Holds url bytes)

-- the data URL of bytes
abbrev pub data_url_of : List ℕ → List ℕ
data_url_of bytes = codes "data:application/json;charset=utf-8;base64," ++ encode_of standard bytes
