use Rattle.std.proofs.Common.{◌≡◌, drop}
use Rattle.serde_json.specs.View.{items_view}
use Rattle.sourcemap_check_keys.specs.Values.{some_item}
use Rattle.sourcemap_check_keys.proofs.values.some_item.Given as goal

abbrev pub invariant-loop-item : goal.invariant-loop-item
invariant-loop-item l = some_item l.test (items_view (drop l.item-index l.items)) ≡ some_item l.test (items_view l.items)
