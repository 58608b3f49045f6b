use Rattle.std.proofs.Common.{refl}
use Rattle.sourcemap_check_order.proofs.RangeLemmas.{BitsSoFar-more, BitsSoFar-all}
use Rattle.sourcemap_check_order.proofs.ranges.bits_fit.Goals as goal

pub loop-byte-init : goal.loop-byte-init
loop-byte-init c = record { rest = refl }

pub loop-byte-preserved : goal.loop-byte-preserved
loop-byte-preserved c =
    rw c.saturating_sub-left.ensures
    (BitsSoFar-more _ _ _ _ _ _ _ c.loop-byte.invariant c.loop-byte-test.true refl c.digit_fits-fits.ensures)

pub returns : goal.returns
returns c = BitsSoFar-all _ _ _ _ _ c.loop-byte.invariant c.loop-byte-test.false
