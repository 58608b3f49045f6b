use Rattle.std.proofs.Common.{◌≡◌, ◌<◌, ◌^◌, Some, decimal, true, refl, sym, ap, ◌∙◌, arith}
use Rattle.json.proofs.Printed.Decimals.{IsNumber-decimal}
use Rattle.json.proofs.Printed.Numbers.{lex-number}
use Rattle.json.specs.Token.{number}
use Rattle.json.specs.Lex.{may_begin}
use Rattle.serde_json.proofs.Numbers.{number_of-decimal}
use Rattle.sourcemap_json_read.specs.Cursor.{grammar_state}
use Rattle.sourcemap_json_read.proofs.Lexemes.{number_value}
use Rattle.sourcemap_json_read.proofs.Tokens.{word_at}
use Rattle.sourcemap_json_read.proofs.Utf8Lemmas.{word_passed}
use Rattle.std.proofs.lemmas.Fmt.{IsAscii-decimal}
use Rattle.std.proofs.lemmas.Str.{IsUtf8-from_ascii}
use Rattle.sourcemap_json_read.proofs.cursor.read_number_step.Goals as goal

pub returns-clause-is_step : goal.returns-clause-is_step
returns-clause-is_step c = λ keeps.
    let n = c.in_ok-value.value in
    let fits : n < 2 ^ 64 = omega arith in
    let may : may_begin (grammar_state c.args.position.state) ≡ true = cc in (
      decimal n,
      word_at c.args.text.now (decimal n) (number (decimal n)) c.args.position _ (may, c.in_ok-value.ensures, refl)
          (λ rest e. lex-number (decimal n) rest (IsNumber-decimal n fits) e) (number_value (decimal n)),
      number_of-decimal n fits ∙ ap Some (sym c.from.ensures),
    )

pub returns-clause-utf8 : goal.returns-clause-utf8
returns-clause-utf8 c =
    let n = c.in_ok-value.value in
    word_passed c.args.text.now c.args.position.at (decimal n) _ c.in_ok-value.ensures
    (IsUtf8-from_ascii (decimal n) (IsAscii-decimal n (omega arith)))
