use Rattle.std.proofs.Common.{arith}
use Rattle.sourcemap_source_views.proofs.LinesLemmas.{mask_of_ends}
use Rattle.sourcemap_source_views.proofs.lines.ends.Goals as goal

pub returns : goal.returns
returns c = mask_of_ends 64 c.args.bytes c.fits-bytes.0 (omega arith)
