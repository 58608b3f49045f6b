-- prover: explicit search
use Rattle.std.proofs.Common.{rules}
use Rattle.sourcemap_index.proofs.family.SourceMapIndex.new.Goals as goal

pub returns : goal.returns
returns c = search rules
