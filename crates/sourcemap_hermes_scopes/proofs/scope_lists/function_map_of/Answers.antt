-- prover: explicit search
use Rattle.std.proofs.Common.{rules}
use Rattle.sourcemap_hermes_scopes.proofs.scope_lists.function_map_of.Goals as goal

pub returns-in_default-clause-map : goal.returns-in_default-clause-map
returns-in_default-clause-map c = search rules

pub returns-in_default-clause-memory : goal.returns-in_default-clause-memory
returns-in_default-clause-memory c = search rules

pub returns-in-Some-first-clause-memory : goal.returns-in-Some-first-clause-memory
returns-in-Some-first-clause-memory c = search rules

pub returns-in-None-clause-memory : goal.returns-in-None-clause-memory
returns-in-None-clause-memory c = search rules
