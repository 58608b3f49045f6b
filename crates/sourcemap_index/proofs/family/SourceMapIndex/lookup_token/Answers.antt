use Rattle.sourcemap_index_model.specs.MapTree.{index_tree}
use Rattle.sourcemap_index.specs.Family.{index_value}
use Rattle.sourcemap_index.proofs.LookupLemmas.{meaning_found}
use Rattle.sourcemap_index.proofs.family.SourceMapIndex.lookup_token.Goals as goal

pub returns-clause-meaning : goal.returns-clause-meaning
returns-clause-meaning c = λ ordered. meaning_found (index_tree (index_value c.args.self.now)) (c.args.line, c.args.col)
    c.closest_token.result (c.closest_token.ensures.value ordered)
