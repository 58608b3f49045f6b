use Rattle.std.proofs.Common.{◌≡◌, ◌+◌, drop, get_or, ap, ◌∙◌, arith}
use Rattle.json.specs.Word.{head, is_space}
use Rattle.sourcemap_json_read.proofs.Lexemes.{space_passed}
use Rattle.sourcemap_json_read.proofs.Utf8Lemmas.{ascii_passed, utf8_on}
use Rattle.sourcemap_json_read.proofs.bytes.skip_blanks.Goals as goal

pub loop-at-preserved : goal.loop-at-preserved
loop-at-preserved c =
    let text = c.args.text.now in
    let l = c.loop-at in
    let blank : head (drop l.at text) ≡ 32 = grind arith in
    let byte : get_or text l.at 32 ≡ 32 = grind arith in (
      space_passed text l.at (ap is_space blank) ∙ l.invariant.0,
      omega (arith, l.invariant.1),
      utf8_on text c.args.from l.at (l.at + 1) l.invariant.2
          (ascii_passed text l.at (omega arith) (omega (arith, byte))),
    )

pub returns-then-byte_at-ne32-clause-utf8 : goal.returns-then-byte_at-ne32-clause-utf8
returns-then-byte_at-ne32-clause-utf8 c = c.loop-at.invariant.2

pub returns-clause-utf8 : goal.returns-clause-utf8
returns-clause-utf8 c = c.loop-at.invariant.2
