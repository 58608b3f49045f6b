-- prover: wrong bodies refused fast
use Rattle.std.proofs.Common.{rules}
use Rattle.sourcemap_map_parts.proofs.sources.is_absolute_source.Goals as goal

pub returns : goal.returns
returns c = search rules
