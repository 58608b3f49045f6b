use Rattle.sourcemap_builder.proofs.BuilderLemmas.{below-count}
use Rattle.sourcemap_builder.proofs.builder.SourceMapBuilder.add_name.Goals as goal

pub returns-clause-in_range : goal.returns-clause-in_range
returns-clause-in_range c = below-count c.add.result c.add.new.self c.args.name.now c.add.ensures.text
