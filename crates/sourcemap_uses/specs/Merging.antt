-- Adding sources to a builder.
use Rattle.std.specs.Prelude.{◌≡◌, ℕ, ◌<◌, List, ◌++◌, fold, length, slice_set}
use Rattle.sourcemap.specs.Builder.{BuilderValue, with_source}
use Rattle.sourcemap.specs.declared.errors.Error.{Error}
use Rattle.sourcemap.specs.declared.errors.Error.TheVariants.{IncompatibleSourceMap}

-- the error for more sources than there are ids
abbrev pub AreTooMany : List (List ℕ) → Error → Type 0
AreTooMany sources e = (e ≡ IncompatibleSourceMap) × (4294967295 < length sources)

-- `sources` is the list `added` followed by the list `rest`. The new builder is the old builder after the sources in
-- `added` are added, in order. Each list may be empty.
abbrev pub HasFirstOf : (old new : BuilderValue) → List (List ℕ) → Type 0
HasFirstOf old new sources =
    (added rest : List (List ℕ)) × (sources ≡ added ++ rest) × (new ≡ fold with_source old added)

-- the builder after a call of `set_source`: in `sources`, `text` replaces the source with this id
abbrev pub with_display_text : BuilderValue → ℕ → List ℕ → BuilderValue
with_display_text b id text = record b { sources = slice_set b.sources id text }
