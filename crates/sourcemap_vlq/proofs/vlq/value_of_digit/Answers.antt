use Rattle.std.proofs.Common.{arith, ◌<◌}
use Rattle.sourcemap_vlq.proofs.DigitLemmas.{value_found, value_missing}
use Rattle.sourcemap_vlq.proofs.vlq.value_of_digit.Goals as goal

pub returns-then-value-lt64 : goal.returns-then-value-lt64
returns-then-value-lt64 c =
    let small : c.args.byte < 256 = omega arith in
    value_found c.args.byte small c.if-value-lt64.true

pub returns-else-value-lt64 : goal.returns-else-value-lt64
returns-else-value-lt64 c =
    let small : c.args.byte < 256 = omega arith in
    value_missing c.args.byte small c.if-value-lt64.false
