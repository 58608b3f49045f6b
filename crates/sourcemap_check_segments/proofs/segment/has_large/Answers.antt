use Rattle.std.proofs.Common.{sym}
use Rattle.sourcemap_check_segments.proofs.SegmentLemmas.{large_is}
use Rattle.sourcemap_check_segments.proofs.segment.has_large.Goals as goal

pub returns : goal.returns
returns c = λ raws d. rw (d.large_later, d.five) (sym (large_is raws))
