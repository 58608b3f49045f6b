use Rattle.sourcemap_json_read.proofs.Numerals.{next_digit}
use Rattle.sourcemap_json_read.proofs.words.digits.Goals as goal

pub loop-digit-preserved : goal.loop-digit-preserved
loop-digit-preserved c =
    let found = c.in-Some.ensures in
    next_digit c.args.text.now c.args.from c.loop-digit.value c.loop-digit.at c.in-Some.digit c.loop-digit.invariant
    found.inside found.byte found.small
