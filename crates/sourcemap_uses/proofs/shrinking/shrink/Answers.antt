-- `shrink` returns `rewritten no_removal` of the map, or the error `OutOfMemory`. The clauses on the root, the sources
-- and the names of the result follow from this.
use Rattle.std.proofs.Common.{◌≡◌, refl, None, arith}
use Rattle.sourcemap.specs.Rewrite.{no_removal, rewritten, used_names, used_sources}
use Rattle.sourcemap_uses.proofs.RewritingLemmas.{default_memory, default_whole, sources_uncut, whole_so}
use Rattle.sourcemap_uses.proofs.shrinking.shrink.Goals as goal

pub returns-clause-whole : goal.returns-clause-whole
returns-clause-whole g c =
    default_whole c.default.result c.args.map c.rewrite.result c.default.ensures
    (c.default_rewriting_is_final.ensures.default c.default.result c.default.ensures) c.rewrite.ensures.value

pub returns-clause-root : goal.returns-clause-root
returns-clause-root g c = whole_so (λ small. small.root
    ≡ None) c.rewrite.result (rewritten no_removal c.args.map) (returns-clause-whole g c) refl

pub returns-clause-sources : goal.returns-clause-sources
returns-clause-sources g c =
    whole_so (λ small. small.sources ≡ used_sources c.args.map) c.rewrite.result (rewritten no_removal c.args.map)
    (returns-clause-whole g c) (sources_uncut c.args.map)

pub returns-clause-names : goal.returns-clause-names
returns-clause-names g c =
    whole_so (λ small. small.names ≡ used_names c.args.map) c.rewrite.result (rewritten no_removal c.args.map)
    (returns-clause-whole g c) refl

pub returns-clause-last : goal.returns-clause-last
returns-clause-last g c =
    whole_so (λ small. rewritten no_removal small ≡ small) c.rewrite.result (rewritten no_removal c.args.map)
    (returns-clause-whole g c)
    (c.default_rewriting_is_final.ensures.twice c.args.map (omega arith) (omega arith))

pub returns-clause-memory : goal.returns-clause-memory
returns-clause-memory g c =
    default_memory c.default.result c.args.map c.rewrite.result c.default.ensures c.rewrite.ensures.value
