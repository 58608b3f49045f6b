-- prover: explicit search
use Rattle.std.proofs.Common.{rules}
use Rattle.sourcemap_builder.proofs.builder.SourceMapBuilder.strip_prefixes.Goals as goal

pub returns : goal.returns
returns g c = search rules
