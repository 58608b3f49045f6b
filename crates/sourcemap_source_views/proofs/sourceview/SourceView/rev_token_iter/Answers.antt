-- prover: wrong bodies refused fast
use Rattle.std.proofs.Common.{rules}
use Rattle.sourcemap_source_views.proofs.sourceview.SourceView.rev_token_iter.Goals as goal

pub returns : goal.returns
returns g c = search rules
