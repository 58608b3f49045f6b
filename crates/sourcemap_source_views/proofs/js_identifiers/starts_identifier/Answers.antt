-- prover: wrong bodies refused fast
use Rattle.std.proofs.Common.{rules}
use Rattle.sourcemap_source_views.proofs.js_identifiers.starts_identifier.Goals as goal

pub returns-in_default : goal.returns-in_default
returns-in_default c = search rules

pub returns-in-36 : goal.returns-in-36
returns-in-36 c = search rules

pub returns-in-36-2 : goal.returns-in-36-2
returns-in-36-2 c = search rules

pub returns-in-36-3 : goal.returns-in-36-3
returns-in-36-3 c = search rules

pub returns-in-0-to-127 : goal.returns-in-0-to-127
returns-in-0-to-127 c = search rules

pub returns-in-0-to-127-2 : goal.returns-in-0-to-127-2
returns-in-0-to-127-2 c = search rules

pub returns-in-0-to-127-3 : goal.returns-in-0-to-127-3
returns-in-0-to-127-3 c = search rules

pub returns-in-0-to-127-4 : goal.returns-in-0-to-127-4
returns-in-0-to-127-4 c = search rules
