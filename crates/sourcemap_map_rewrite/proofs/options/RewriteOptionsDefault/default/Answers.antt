-- prover: explicit search
use Rattle.std.proofs.Common.{rules}
use Rattle.sourcemap_map_rewrite.proofs.options.RewriteOptionsDefault.default.Goals as goal

pub returns : goal.returns
returns c = search rules
