-- prover: explicit search
use Rattle.std.proofs.Common.{rules}
use Rattle.sourcemap_builder.proofs.builder.SourceMapBuilder.get_file.Goals as goal

pub returns : goal.returns
returns c = search rules
