use Rattle.std.proofs.Common.{◌≡◌, true, false, is_some, slice_set, refl, ap, ◌∙◌, arith}
use Rattle.sourcemap_tokens.specs.Items.{item_at}
use Rattle.sourcemap_map_rewrite.proofs.KeptContentsLemmas.{item_at-existing}
use Rattle.sourcemap_map_rewrite.proofs.kept_contents.move_contents.Goals as goal

pub returns-then-is_none-clause-kept : goal.returns-then-is_none-clause-kept
returns-then-is_none-clause-kept c =
    let kept = c.args.kept.now in
    let none : is_some (item_at kept.items c.args.new_id) ≡ false =
    item_at-existing kept.items c.args.new_id c.index.result.now (omega (arith, kept.ok.0)) c.index.ensures
    ∙ c.if-is_none.ensures in
    rw none (ap (slice_set kept.items c.args.new_id) c.take_item.ensures.taken)

pub returns-then-is_none-clause-left : goal.returns-then-is_none-clause-left
returns-then-is_none-clause-left c =
    let kept = c.args.kept.now in
    let none : is_some (item_at kept.items c.args.new_id) ≡ false =
    item_at-existing kept.items c.args.new_id c.index.result.now (omega (arith, kept.ok.0)) c.index.ensures
    ∙ c.if-is_none.ensures in
    rw none c.take_item.ensures.left

pub returns-else-is_none-clause-kept : goal.returns-else-is_none-clause-kept
returns-else-is_none-clause-kept c =
    let kept = c.args.kept.now in
    let some : is_some (item_at kept.items c.args.new_id) ≡ true =
    item_at-existing kept.items c.args.new_id c.index.result.now (omega (arith, kept.ok.0)) c.index.ensures
    ∙ c.if-is_none.ensures in
    rw some refl

pub returns-else-is_none-clause-left : goal.returns-else-is_none-clause-left
returns-else-is_none-clause-left c =
    let kept = c.args.kept.now in
    let some : is_some (item_at kept.items c.args.new_id) ≡ true =
    item_at-existing kept.items c.args.new_id c.index.result.now (omega (arith, kept.ok.0)) c.index.ensures
    ∙ c.if-is_none.ensures in
    rw some refl
