use Rattle.sourcemap_index_model.proofs.EqualityLemmas.{trees_decide, same_tree_equiv}
use Rattle.sourcemap_index_model.proofs.laws.same_tree_decides.Goals as goal

pub returns-clause-decides : goal.returns-clause-decides
returns-clause-decides c = trees_decide

pub returns-clause-equivalence : goal.returns-clause-equivalence
returns-clause-equivalence c = same_tree_equiv
