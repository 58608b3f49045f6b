use Rattle.std.proofs.Common.{rules}
use Rattle.sourcemap_check_lists.proofs.MarkLemmas.{MarksSoFar-none, MarksSoFar-more}
use Rattle.sourcemap_check_lists.proofs.ListLemmas.{none_result}
use Rattle.sourcemap_check_lists.proofs.lists.missing_marks.Goals as goal

pub loop-id-init : goal.loop-id-init
loop-id-init c = MarksSoFar-none _ _ (search rules)

pub loop-id-preserved : goal.loop-id-preserved
loop-id-preserved c =
    MarksSoFar-more _ _ _ _ _ c.loop-id.invariant
    (none_result (λ x. x.now) c.get_source_contents.result _ _ c.is_none.ensures c.get_source_contents.ensures)
    c.in_ok-push.ensures.items
