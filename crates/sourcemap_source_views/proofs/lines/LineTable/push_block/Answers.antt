use Rattle.std.proofs.Common.{◌+◌, arith}
use Rattle.sourcemap_source_views.proofs.LinesLemmas.{lowest_bit, no_bit, tabled-on}
use Rattle.sourcemap_source_views.proofs.lines.LineTable.push_block.Goals as goal
use lib.Count.{count_trailing_zeros}

pub push_end-requires-clause-inside : goal.push_end-requires-clause-inside
push_end-requires-clause-inside c =
    let at = c.loop-left.invariant in
    let low = lowest_bit c.args.bytes.now c.loop-left.offset (c.args.from
    + 64) c.loop-left.left at.high c.requires.bounded (omega arith) at.mask (omega (arith, c.loop-left-test.true)) in
    omega (arith, low.inside)

pub push_end-requires-clause-ends : goal.push_end-requires-clause-ends
push_end-requires-clause-ends c =
    let at = c.loop-left.invariant in
    let low = lowest_bit c.args.bytes.now c.loop-left.offset (c.args.from
    + 64) c.loop-left.left at.high c.requires.bounded (omega arith) at.mask (omega (arith, c.loop-left-test.true)) in
    low.ends

pub push_end-requires-clause-before : goal.push_end-requires-clause-before
push_end-requires-clause-before c =
    let at = c.loop-left.invariant in
    let low = lowest_bit c.args.bytes.now c.loop-left.offset (c.args.from
    + 64) c.loop-left.left at.high c.requires.bounded (omega arith) at.mask (omega (arith, c.loop-left-test.true)) in
    tabled-on c.args.bytes.now c.loop-left.start c.loop-left.offset
    (c.loop-left.offset + count_trailing_zeros 64 c.loop-left.left) _ at.tabled low.quiet

pub loop-left-preserved : goal.loop-left-preserved
loop-left-preserved c =
    let at = c.loop-left.invariant in
    let low = lowest_bit c.args.bytes.now c.loop-left.offset (c.args.from
    + 64) c.loop-left.left at.high c.requires.bounded (omega arith) at.mask (omega (arith, c.loop-left-test.true)) in
    record { low = omega arith; high = omega (arith, low.inside); mask = low.after; tabled = c.in_ok-start.ensures }

pub loop-left-smaller : goal.loop-left-smaller
loop-left-smaller c =
    let at = c.loop-left.invariant in
    let low = lowest_bit c.args.bytes.now c.loop-left.offset (c.args.from
    + 64) c.loop-left.left at.high c.requires.bounded (omega arith) at.mask (omega (arith, c.loop-left-test.true)) in
    omega (arith, low.inside)

pub returns : goal.returns
returns c =
    let at = c.loop-left.invariant in
    tabled-on c.args.bytes.now c.loop-left.start c.loop-left.offset (c.args.from + 64) _ at.tabled
    (no_bit c.args.bytes.now c.loop-left.offset
    (c.args.from + 64) c.loop-left.left at.high c.requires.bounded at.mask c.loop-left-test.false)
