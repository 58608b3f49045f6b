-- Errors of flattening: the text of an error, and the condition for the error.
use Rattle.std.specs.Prelude.{◌≡◌, ℕ, List, Bool, true, string_bytes}
use Rattle.sourcemap_errors.specs.Answer.{UnlessMemory}
use Rattle.sourcemap_errors.specs.declared.errors.Error.{Error}
use Rattle.sourcemap_errors.specs.declared.errors.Error.TheVariants.{CannotFlatten}

-- the error is `CannotFlatten` with this text
abbrev pub GivesReason : List ℕ → Error → Type 0
GivesReason reason (CannotFlatten text) = string_bytes text ≡ reason
GivesReason reason _ = ⊥

-- the error gives this reason, or it is `OutOfMemory`
abbrev pub Refuses : List ℕ → Error → Type 0
Refuses reason e = UnlessMemory e (GivesReason reason e)

-- `holds` is true and the error gives this reason, or the error is `OutOfMemory`
abbrev pub RefusesBy : Bool → List ℕ → Error → Type 0
RefusesBy holds reason e = UnlessMemory e ((holds ≡ true) × GivesReason reason e)
