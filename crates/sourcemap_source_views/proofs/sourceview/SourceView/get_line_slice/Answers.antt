-- prover: wrong bodies refused fast
use Rattle.std.proofs.Common.{rules}
use Rattle.sourcemap_source_views.proofs.sourceview.SourceView.get_line_slice.Goals as goal

pub returns-in_err-get_line : goal.returns-in_err-get_line
returns-in_err-get_line c = search rules

pub returns : goal.returns
returns c = search rules
