-- prover: wrong bodies refused fast
use Rattle.std.proofs.Common.{rules}
use Rattle.sourcemap_source_views.proofs.sourceview.SourceView.from_string.Goals as goal

pub returns-in_err-lines : goal.returns-in_err-lines
returns-in_err-lines c = search rules

pub returns : goal.returns
returns c = search rules
