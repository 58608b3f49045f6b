-- prover: explicit search
use Rattle.std.proofs.Common.{rules}
use Rattle.sourcemap_hermes_scopes.proofs.function_map.HermesFunctionMap.clone.Goals as goal

pub returns-in_err-offsets : goal.returns-in_err-offsets
returns-in_err-offsets c = search rules

pub returns : goal.returns
returns c = search rules
