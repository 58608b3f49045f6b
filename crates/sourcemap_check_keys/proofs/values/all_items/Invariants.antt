use Rattle.std.proofs.Common.{◌≡◌, drop}
use Rattle.serde_json.specs.View.{items_view}
use Rattle.sourcemap_check_keys.specs.Values.{all_items}
use Rattle.sourcemap_check_keys.proofs.values.all_items.Given as goal

abbrev pub invariant-loop-item : goal.invariant-loop-item
invariant-loop-item l = all_items l.test (items_view (drop l.item-index l.items)) ≡ all_items l.test (items_view l.items)
