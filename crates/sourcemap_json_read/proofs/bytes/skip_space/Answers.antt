use Rattle.std.proofs.Common.{◌≡◌, ◌+◌, drop, get_or, true, ◌∙◌, arith}
use Rattle.json.specs.Word.{head, is_space}
use Rattle.sourcemap_json_read.specs.Strings.{IsUtf8UpTo}
use Rattle.sourcemap_json_read.proofs.Lexemes.{space_is_ascii, space_passed}
use Rattle.sourcemap_json_read.proofs.Utf8Lemmas.{ascii_passed, utf8_on}
use Rattle.sourcemap_json_read.proofs.bytes.skip_space.Goals as goal

pub loop-at-preserved : goal.loop-at-preserved
loop-at-preserved c =
    let text = c.args.text.now in
    let l = c.loop-at in
    let white : is_space (head (drop l.at text)) ≡ true = cc in
    let low : is_space (get_or text l.at 32) ≡ true = cc in
    let passed : IsUtf8UpTo text l.at (l.at + 1) =
    ascii_passed text l.at (omega arith) (space_is_ascii (get_or text l.at 32) low) in (
      c.skip_blanks-at.ensures.same ∙ space_passed text l.at white ∙ l.invariant.0,
      utf8_on text c.args.from l.at _ l.invariant.1
          (utf8_on text l.at (l.at + 1) _ passed c.skip_blanks-at.ensures.utf8),
    )

pub returns-then-not-is_white-clause-utf8 : goal.returns-then-not-is_white-clause-utf8
returns-then-not-is_white-clause-utf8 c = c.loop-at.invariant.1

pub returns-clause-utf8 : goal.returns-clause-utf8
returns-clause-utf8 c = c.loop-at.invariant.1
