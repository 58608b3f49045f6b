-- prover: explicit search
use Rattle.std.proofs.Common.{rules}
use Rattle.sourcemap_index.proofs.family.SourceMapIndex.get_original_function_name.Goals as goal

pub returns : goal.returns
returns c = search rules
