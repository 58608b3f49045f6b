use Rattle.std.proofs.Common.{◌≡◌, map, take}
use Rattle.sourcemap_records.proofs.field.VecField.duplicate.Given as goal

abbrev pub invariant-loop-field : goal.invariant-loop-field
invariant-loop-field g l = map g.T.Field.see l.copies.items ≡ map g.T.Field.see (take l.field-index l.self.items)
