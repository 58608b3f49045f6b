-- prover: explicit search
use Rattle.std.proofs.Common.{rules}
use Rattle.sourcemap_builder.proofs.builder.SourceMapBuilder.has_source_contents.Goals as goal

pub returns : goal.returns
returns c = search rules
