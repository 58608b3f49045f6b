-- The items taken so far, and the ids left.
use Rattle.std.proofs.Common.{◌≡◌, ◌++◌, drop}
use Rattle.sourcemap_hermes_scopes.specs.Picks.{moved_items}
use Rattle.sourcemap_hermes_scopes.proofs.picks.take_items.Given as goal

abbrev pub invariant-loop-id : goal.invariant-loop-id
invariant-loop-id g l =
    moved_items l.fn.items.items l.ids ≡ l.moved.items ++ moved_items l.items.items (drop l.id-index l.ids)
