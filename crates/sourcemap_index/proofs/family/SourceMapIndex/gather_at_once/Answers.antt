use Rattle.std.proofs.Common.{[]}
use Rattle.sourcemap_index_model.specs.MapTree.{IndexValue, index_tree}
use Rattle.sourcemap_index.specs.Family.{index_value}
use Rattle.sourcemap_index.specs.Leaves.{leaves}
use Rattle.sourcemap_index.proofs.FlattenLemmas.{if_ok_any, if_ok_then}
use Rattle.sourcemap_index.proofs.LeavesLemmas.{complete-in_order, flat-of_leaves, gathered-leaves}
use Rattle.sourcemap_index.proofs.family.SourceMapIndex.gather_at_once.Goals as goal

pub returns-clause-ok : goal.returns-clause-ok
returns-clause-ok c =
    let v : IndexValue = index_value c.args.self.now in
    let added = c.in_ok-gather_leaves.ensures.ok [] c.in_ok-gathering.ensures.ok in
    if_ok_then c.finish.result
    (λ flat is. flat-of_leaves v c.gather_leaves.new.gathering flat c.in_ok-gather_leaves.ensures.complete added is)
    (c.finish.ensures.ok (leaves (index_tree v)) (gathered-leaves v c.gather_leaves.new.gathering added))

pub returns-clause-in_order : goal.returns-clause-in_order
returns-clause-in_order c = if_ok_any c.finish.result
    (complete-in_order (index_tree (index_value c.args.self.now)) c.in_ok-gather_leaves.ensures.complete)
