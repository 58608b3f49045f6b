-- prover: wrong bodies refused fast
use Rattle.std.proofs.Common.{rules}
use Rattle.sourcemap_source_views.proofs.sourceview.SourceView.into_source.Goals as goal

pub returns : goal.returns
returns c = search rules
