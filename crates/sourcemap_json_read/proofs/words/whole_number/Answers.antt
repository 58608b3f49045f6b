use Rattle.std.proofs.Common.{◌<◌, sym, arith}
use Rattle.sourcemap_json_read.proofs.Numerals.{is_decimal}
use Rattle.sourcemap_json_read.proofs.words.whole_number.Goals as goal

pub returns-then-is_word_end : goal.returns-then-is_word_end
returns-then-is_word_end c =
    let read = c.in_ok-value in
    let some : c.args.from < read.end = omega (arith, read.ensures.size) in (
      is_decimal c.args.text.now c.args.from read.value read.end read.ensures some c.if-not-is_shortest.ensures
          (omega arith),
      sym c.if-is_word_end.ensures,
    )
