-- prover: explicit search
use Rattle.std.proofs.Common.{rules}
use Rattle.sourcemap_map_rewrite.proofs.rewritten.names_if.Goals as goal

pub returns-then-with_names : goal.returns-then-with_names
returns-then-with_names c = search rules

pub returns-else-with_names : goal.returns-else-with_names
returns-else-with_names c = search rules
