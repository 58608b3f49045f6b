-- If `items` has an item with the next id, the loop moves this item to the end of `moved`. Otherwise, the loop appends
-- `None` to `moved`. Both keep the loop invariant.
use Rattle.std.proofs.Common.{◌≡◌, ◌++◌, ◌∷◌, [], ℕ, ◌+◌, List, drop, get_or, subst}
use Rattle.std.proofs.lemmas.List.{drop_more}
use Rattle.sourcemap_tokens.specs.Items.{item_at}
use Rattle.sourcemap_hermes_scopes.specs.Picks.{moved_items}
use Rattle.sourcemap_hermes_scopes.proofs.PicksLemmas.{moved-more}
use Rattle.sourcemap_hermes_scopes.proofs.picks.take_items.Goals as goal

pub loop-id-preserved : goal.loop-id-preserved
loop-id-preserved g c =
    let ids : List ℕ = c.args.ids.now in
    let i : ℕ = c.loop-id.id-index in
    let id : ℕ = get_or ids i 0 in
    let rest : List ℕ = drop (i + 1) ids in
    let next : drop i ids ≡ id ∷ rest = drop_more ids i 0 c.loop-id-test.true in
    let whole = subst (λ left. moved_items c.args.items.items ids
    ≡ c.loop-id.moved.items ++ moved_items c.loop-id.items.items left) next c.loop-id.invariant in
    let pushed : c.push.new.self.items ≡ c.loop-id.moved.items ++ item_at c.loop-id.items.items id ∷ [] =
    rw c.take_item.ensures.taken at c.in_ok-push.ensures.items in
    rw (pushed, c.take_item.ensures.left)
    (moved-more (moved_items c.args.items.items ids) c.loop-id.moved.items c.loop-id.items.items id rest whole)
