-- prover: explicit search
use Rattle.std.proofs.Common.{rules}
use Rattle.sourcemap_builder.proofs.builder.SourceMapBuilder.set_debug_id.Goals as goal

pub returns : goal.returns
returns c = search rules
