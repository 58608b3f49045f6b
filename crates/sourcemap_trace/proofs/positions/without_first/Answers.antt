use Rattle.std.proofs.Common.{arith}
use Rattle.sourcemap_trace.proofs.PositionsLemmas.{cut_there, not_cut}
use Rattle.sourcemap_trace.proofs.positions.without_first.Goals as goal

pub returns-then-byte-eq10-clause-later : goal.returns-then-byte-eq10-clause-later
returns-then-byte-eq10-clause-later c =
    cut_there 10 c.args.lines.now c.loop-index.index c.loop-index.invariant (omega arith) c.if-byte-eq10.true

pub returns-clause-later : goal.returns-clause-later
returns-clause-later c = not_cut 10 c.args.lines.now c.loop-index.index c.loop-index.invariant (omega arith)
