-- The map that is embedded in a reference, as a data URL.
use Rattle.std.specs.Prelude.{◌≡◌, ℕ, List, Option, Some, None, Result, Ok}
use Rattle.std.specs.Bool.{MatchBool}
use Rattle.sourcemap_errors.specs.declared.errors.Error.{Error}
use Rattle.sourcemap_index_model.specs.MapTree.{MapTree}
use Rattle.sourcemap_index_model.specs.Decode.{Then}
use Rattle.sourcemap_index.specs.Decode.{UrlDecodes}
use Rattle.sourcemap_references.specs.Resolution.{is_data_url}

-- for a text that starts with `data:`, the result of decoding it as a data URL; for any other text, `None`
abbrev pub EmbeddedAnswer : List ℕ → Result (Option MapTree) Error → Type 0
EmbeddedAnswer url answer =
    MatchBool (is_data_url url) (Then (UrlDecodes url) (λ m a. a ≡ Ok (Some m)) answer) (answer ≡ Ok None)
