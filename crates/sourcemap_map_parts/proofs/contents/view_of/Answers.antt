-- prover: wrong bodies refused fast
use Rattle.std.proofs.Common.{rules}
use Rattle.sourcemap_map_parts.proofs.contents.view_of.Goals as goal

pub returns-in_err-from_string-in-Some : goal.returns-in_err-from_string-in-Some
returns-in_err-from_string-in-Some c = search rules

pub returns-in-None : goal.returns-in-None
returns-in-None c = search rules

pub returns-in_ok-from_string-in-Some : goal.returns-in_ok-from_string-in-Some
returns-in_ok-from_string-in-Some c = search rules
