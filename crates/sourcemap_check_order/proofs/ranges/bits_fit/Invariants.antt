use Rattle.sourcemap_check_order.proofs.RangeLemmas.{BitsSoFar}
use Rattle.sourcemap_check_order.proofs.ranges.bits_fit.Given as goal

abbrev pub invariant-loop-byte : goal.invariant-loop-byte
invariant-loop-byte l = BitsSoFar l.count l.line l.byte-index l.left l.fits
