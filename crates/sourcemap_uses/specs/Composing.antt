-- The tokens of three build steps, composed.
use Rattle.std.specs.Prelude.{◌≡◌, List, Result}
use Rattle.sourcemap.specs.Composition.{composition}
use Rattle.sourcemap.specs.TreeDecoder.{Then}
use Rattle.sourcemap.specs.declared.errors.Error.{Error}
use Rattle.sourcemap.specs.declared.types.RawToken.{RawToken}

-- the composition of `original` and `second`, composed with `third`, or the first error
abbrev pub ComposesTwice : (original second third : List RawToken) → Result (List RawToken) Error → Type 0
ComposesTwice original second third answer =
    Then (λ a. a ≡ composition original second) (λ middle a. a ≡ composition middle third) answer
