-- prover: explicit search
use Rattle.std.proofs.Common.{rules}
use Rattle.sourcemap_hermes_scopes.proofs.function_map.HermesFunctionMap.read.Goals as goal

pub returns-in-Ok-clause-map : goal.returns-in-Ok-clause-map
returns-in-Ok-clause-map c = search rules

pub returns-in-Ok-clause-memory : goal.returns-in-Ok-clause-memory
returns-in-Ok-clause-memory c = search rules

pub returns-in-OutOfMemory-clause-map : goal.returns-in-OutOfMemory-clause-map
returns-in-OutOfMemory-clause-map c = search rules

pub returns-in-OutOfMemory-clause-memory : goal.returns-in-OutOfMemory-clause-memory
returns-in-OutOfMemory-clause-memory c = search rules

pub returns-in_default : goal.returns-in_default
returns-in_default c = search rules
