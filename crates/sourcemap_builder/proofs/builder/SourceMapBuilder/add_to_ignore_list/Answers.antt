-- prover: explicit search
use Rattle.std.proofs.Common.{rules}
use Rattle.sourcemap_builder.proofs.builder.SourceMapBuilder.add_to_ignore_list.Goals as goal

pub returns : goal.returns
returns c = search rules
