-- Names of functions by original positions.
use Rattle.std.specs.Prelude.{◌≡◌, ℕ, List, Option, Some}
use Rattle.sourcemap_hermes_scopes.specs.SourceScopes.{IsInOrderAt, scope_at}
use Rattle.sourcemap_index_model.specs.MapTree.{MapTree, hermes, leaf}
use Rattle.sourcemap_c.specs.Codes.{IsAbsentUnlessOk, ReturnsValue}
use Rattle.sourcemap_c.specs.Functions.{Refuses}

-- The name of the function that contains the position `p` of a source of a Hermes map. The call writes `scope_at` and
-- returns `SM_OK`, or returns `SM_ABSENT` if `scope_at` is `None`. But if the functions of the source are unsorted, the
-- call may return `SM_OK` with any name, or `SM_ABSENT`. Without a Hermes map the call returns `SM_WRONG_KIND`. The call
-- writes only if it returns `SM_OK`.
abbrev pub NamesFor : Option MapTree → (source : ℕ) → ℕ × ℕ → (code : ℕ) → (old new : List ℕ) → Type 0
NamesFor (Some (leaf (hermes h))) source p code old new = IsAbsentUnlessOk code old new
    × (IsInOrderAt h.scopes source → ReturnsValue (Some (scope_at h.scopes source p)) code old new)
NamesFor _ source p code old new = Refuses 33 code old new
