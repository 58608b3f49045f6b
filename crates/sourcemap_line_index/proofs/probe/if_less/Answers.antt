use Rattle.std.proofs.Common.{arith}
use Rattle.sourcemap_line_index.proofs.ProbeLemmas.{masked}
use Rattle.sourcemap_line_index.proofs.probe.if_less.Goals as goal

pub returns : goal.returns
returns c = let near = c.if-steps-gt-FAR.false in rw (c.from.ensures, c.from-2.ensures)
    (masked c.args.a c.args.b c.args.steps c.ranges.a.fits c.ranges.b.fits (omega arith))
