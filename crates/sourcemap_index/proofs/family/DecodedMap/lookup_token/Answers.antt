use Rattle.sourcemap_index.specs.Family.{map_tree}
use Rattle.sourcemap_index.proofs.LookupLemmas.{meaning_found}
use Rattle.sourcemap_index.proofs.family.DecodedMap.lookup_token.Goals as goal

pub returns-clause-meaning : goal.returns-clause-meaning
returns-clause-meaning c = λ ordered. meaning_found (map_tree c.args.self.now) (c.args.line, c.args.col)
    c.closest_token.result (c.closest_token.ensures.value ordered)
