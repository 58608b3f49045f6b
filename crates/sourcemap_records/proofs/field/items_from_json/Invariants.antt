use Rattle.std.proofs.Common.{◌≡◌, Some, map, ◌++◌}
use Rattle.std.specs.Vec.Iter.{into_iter_items}
use Rattle.serde_json.specs.View.{items_view}
use Rattle.sourcemap_records.specs.Field.{with, items_read}
use Rattle.sourcemap_records.proofs.field.items_from_json.Given as goal

-- the fields of all items are the fields so far, followed by the fields of the remaining items
abbrev pub invariant-loop-item : goal.invariant-loop-item
invariant-loop-item g l =
    items_read g.T.Field.reading (items_view l.fn.items.items)
    ≡ with (items_read g.T.Field.reading (items_view (into_iter_items l.item-iterator)))
    (λ rest. Some (map g.T.Field.see l.fields.items ++ rest))
