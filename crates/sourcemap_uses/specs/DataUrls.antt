-- Maps embedded in references.
use Rattle.std.specs.Prelude.{ℕ, List, Option, Some, None, Result, Ok, Err}
use Rattle.sourcemap.specs.DataUrl.{Holds}
use Rattle.sourcemap.specs.Decoder.{BytesDecode, IsNoUrl, UrlDecodes}
use Rattle.sourcemap.specs.Trees.{MapTree}
use Rattle.sourcemap.specs.declared.errors.Error.{Error}

-- the map of a valid data URL (`Holds`), or the decoding error of its payload; `None` for any other text
abbrev pub InlineAnswer : List ℕ → Result (Option MapTree) Error → Type 0
InlineAnswer url (Ok (Some m)) = UrlDecodes url (Ok m)
InlineAnswer url (Ok None) = IsNoUrl url
InlineAnswer url (Err e) = (bytes : List ℕ) × Holds url bytes × BytesDecode bytes (Err e)
