use Rattle.std.proofs.Common.{◌≡◌, map, ◌++◌}
use Rattle.std.specs.Vec.Iter.{into_iter_items}
use Rattle.std.specs.List.{AllByRecursion}
use Rattle.serde_json.specs.View.{view}
use Rattle.sourcemap_records.proofs.field.items_to_json.Given as goal

-- the JSON values so far, followed by the values of the remaining fields, are the values of all fields. If the
-- remaining fields are in range, then all fields are in range
abbrev pub invariant-loop-field : goal.invariant-loop-field
invariant-loop-field g l =
    (map view l.items.items ++ map g.T.Field.writing (map g.T.Field.see (into_iter_items l.field-iterator))
    ≡ map g.T.Field.writing (map g.T.Field.see l.fn.fields.items))
    × (AllByRecursion g.T.Field.in_range (map g.T.Field.see (into_iter_items l.field-iterator))
    → AllByRecursion g.T.Field.in_range (map g.T.Field.see l.fn.fields.items))
