use Rattle.std.proofs.Common.{rules}
use Rattle.sourcemap_check_lists.proofs.MarkLemmas.{MarksSoFar-none, MarksSoFar-more}
use Rattle.sourcemap_check_lists.proofs.contents.contents_marks.Goals as goal

pub loop-id-init : goal.loop-id-init
loop-id-init c = MarksSoFar-none _ _ (search rules)

pub loop-id-preserved : goal.loop-id-preserved
loop-id-preserved c =
    MarksSoFar-more _ _ _ _ _ c.loop-id.invariant c.has_doubt.ensures c.in_ok-push.ensures.items
