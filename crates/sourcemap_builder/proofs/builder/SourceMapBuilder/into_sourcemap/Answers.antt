-- Sorting keeps ids within their bounds.
use Rattle.std.proofs.Common.{Ok, length, rules}
use Rattle.sourcemap_tokens.proofs.TokensLemmas.{AllWithin-in_order}
use Rattle.sourcemap_map_regular.proofs.MapLemmas.{given-well}
use Rattle.sourcemap_builder.specs.Builder.{built}
use Rattle.sourcemap_builder.proofs.builder.SourceMapBuilder.into_sourcemap.Goals as goal

pub returns-clause-value : goal.returns-clause-value
returns-clause-value c = search rules

pub returns-clause-well_formed : goal.returns-clause-well_formed
returns-clause-well_formed c = λ within.
    let b = c.args.self in
    given-well (Ok c.of_parts.result) (built b) (returns-clause-value c)
    (AllWithin-in_order (length b.sources) (length b.names) b.tokens within)
