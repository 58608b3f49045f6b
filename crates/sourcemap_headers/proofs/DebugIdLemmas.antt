-- A text that is not a UUID has no debug id.
use Rattle.std.proofs.Common.{◌≡◌, ℕ, ◌==◌, List, Option, Some, None, refl, true, false, ◌||◌, length, if◌then◌else◌}
use Rattle.uuid.specs.Text.{parsed}
use Rattle.sourcemap_headers.specs.DebugId.{debug_id_of}

none_of : {X : Type 0} (o : Option X) → ((x : X) × (o ≡ Some x) → ⊥) → None ≡ o
none_of None h = refl
none_of (Some x) h = absurd (h (x, refl))

pub not_parsed : (text : List ℕ) → ((id : List ℕ) × (parsed text ≡ Some id) → ⊥) → None ≡ debug_id_of text
not_parsed text h =
    elim ((length text == 32) || (length text == 36)) as (λ b. None ≡ (if b then parsed text else None)) [
      | true ↦ none_of (parsed text) h
      | false ↦ refl
    ]
