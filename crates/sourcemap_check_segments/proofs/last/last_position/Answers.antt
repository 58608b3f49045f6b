use Rattle.std.proofs.Common.{arith}
use Rattle.sourcemap_check_segments.proofs.last.last_position.Goals as goal

pub loop-rest-preserved : goal.loop-rest-preserved
loop-rest-preserved c = record {
  number = let left = rw c.in-Some.is at c.loop-rest.invariant.number in omega (arith, c.first_part.ensures.shorter);
  so_far =
      rw (c.on_line-best.ensures, c.last_column.ensures)
      (rw (c.in-Some.is, c.first_part.ensures.split) at c.loop-rest.invariant.so_far);
}

pub returns : goal.returns
returns c = rw c.in_default.is at c.loop-rest.invariant.so_far
