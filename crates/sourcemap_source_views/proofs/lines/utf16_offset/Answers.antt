-- prover: wrong bodies refused fast
use Rattle.std.proofs.Common.{rules}
use Rattle.sourcemap_source_views.proofs.lines.utf16_offset.Goals as goal

pub returns-in_err-reach : goal.returns-in_err-reach
returns-in_err-reach c = search rules

pub returns : goal.returns
returns c = search rules
