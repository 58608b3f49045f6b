-- If `resolve_path` returns a path, the answer is the file with this path. For `None`, the answer is `Nowhere`.
use Rattle.std.proofs.Common.{refl, inl, Some, None}
use Rattle.std.specs.Prelude.{string_bytes}
use Rattle.sourcemap_uses.proofs.finding.file_of.Goals as goal

pub returns-in-Ok-Some : goal.returns-in-Ok-Some
returns-in-Ok-Some c =
    let due = rw c.in-Ok-Some.field-0-is at c.in-Ok-Some.ensures in
    inl (Some (string_bytes c.in-Ok-Some.path), due, refl)

pub returns-in-Ok-None : goal.returns-in-Ok-None
returns-in-Ok-None c =
    let due = rw c.in-Ok-None.field-0-is at c.in-Ok-None.ensures in
    inl (None, due, refl)
