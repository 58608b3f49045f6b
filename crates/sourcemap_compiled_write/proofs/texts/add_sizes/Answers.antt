use Rattle.std.proofs.Common.{arith, None}
use Rattle.sourcemap_compiled_write.proofs.TextsLemmas.{length-texts_more}
use Rattle.sourcemap_compiled_write.proofs.texts.add_sizes.Goals as goal

pub loop-text-preserved : goal.loop-text-preserved
loop-text-preserved c =
    let more = length-texts_more c.args.texts.now c.loop-text.text-index None c.loop-text-test.true in
    let sum = c.saturating_add-size.ensures in
    let one = c.size_of.ensures in
    omega arith
