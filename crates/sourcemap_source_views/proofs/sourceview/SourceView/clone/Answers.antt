-- prover: wrong bodies refused fast
use Rattle.std.proofs.Common.{rules}
use Rattle.sourcemap_source_views.proofs.sourceview.SourceView.clone.Goals as goal

pub returns-in_err-source : goal.returns-in_err-source
returns-in_err-source c = search rules

pub returns-in_err-lines : goal.returns-in_err-lines
returns-in_err-lines c = search rules

pub returns : goal.returns
returns c = search rules
