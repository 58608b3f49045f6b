-- At every position, the result has the same meaning as the flat map, except that the rewrite options can remove the
-- name and a prefix of the source.
use Rattle.sourcemap_map_regular.specs.Rewrite.{removal_of}
use Rattle.sourcemap_index_model.specs.MapTree.{MapTree, index_tree}
use Rattle.sourcemap_index.specs.Family.{index_value}
use Rattle.sourcemap_index.proofs.FlattenLemmas.{answers_alike, answers_less, if_ok_then}
use Rattle.sourcemap_index.proofs.family.SourceMapIndex.flatten_and_rewrite.Goals as goal

pub returns-clause-means : goal.returns-clause-means
returns-clause-means g c =
    if_ok_then c.rewrite.result (λ m less. (c.in_ok-flat.flat, c.in_ok-flat.ensures.answer, less))
    c.rewrite.ensures.meaning

pub returns-clause-meaning : goal.returns-clause-meaning
returns-clause-meaning g c =
    let t : MapTree = index_tree (index_value c.args.self) in
    if_ok_then c.rewrite.result
    (λ m less orderly. answers_less t c.in_ok-flat.flat m (c.in_ok-flat.ensures.meaning orderly)
    (removal_of c.args.options.now) c.in_ok-flat.ensures.answer less)
    c.rewrite.ensures.meaning

pub returns-clause-same : goal.returns-clause-same
returns-clause-same g c = λ leaves.
    let t : MapTree = index_tree (index_value c.args.self) in
    if_ok_then c.rewrite.result
    (λ m same orderly. answers_alike t c.in_ok-flat.flat m (c.in_ok-flat.ensures.meaning orderly) same)
    (c.rewrite.ensures.same leaves)
