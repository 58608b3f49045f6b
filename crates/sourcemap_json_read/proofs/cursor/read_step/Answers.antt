use Rattle.std.proofs.Common.{true, false, refl, sym, ap, subst, arith}
use Rattle.json.specs.Ascii.{true_text, false_text, null_text}
use Rattle.json.specs.Token.{boolean, null}
use Rattle.sourcemap_json_read.specs.Strings.{IsUtf8UpTo}
use Rattle.sourcemap_json_read.proofs.Lexemes.{true_word, false_word, null_word, boolean_value, null_value}
use Rattle.sourcemap_json_read.proofs.Tokens.{opens_object, opens_array, closes_object, closes_array, word_at}
use Rattle.sourcemap_json_read.proofs.Utf8Lemmas.{ascii_passed, low_utf8, word_passed}
use Rattle.sourcemap_json_read.proofs.cursor.read_step.Goals as goal

pub returns-in_ok-after_open-in-123-clause-is_step : goal.returns-in_ok-after_open-in-123-clause-is_step
returns-in_ok-after_open-in-123-clause-is_step c =
    opens_object c.args.text.now c.args.position _ (grind arith) c.in_ok-after_open-in-123.ensures

pub returns-in_ok-after_open-in-91-clause-is_step : goal.returns-in_ok-after_open-in-91-clause-is_step
returns-in_ok-after_open-in-91-clause-is_step c =
    opens_array c.args.text.now c.args.position _ (grind arith) c.in_ok-after_open-in-91.ensures

pub returns-in_ok-after_close-in-125-clause-is_step : goal.returns-in_ok-after_close-in-125-clause-is_step
returns-in_ok-after_close-in-125-clause-is_step c =
    closes_object c.args.text.now c.args.position _ (grind arith) c.in_ok-after_close-in-125.ensures

pub returns-in_ok-after_close-in-93-clause-is_step : goal.returns-in_ok-after_close-in-93-clause-is_step
returns-in_ok-after_close-in-93-clause-is_step c =
    closes_array c.args.text.now c.args.position _ (grind arith) c.in_ok-after_close-in-93.ensures

pub returns-in_ok-after_word-in-116-clause-is_step : goal.returns-in_ok-after_word-in-116-clause-is_step
returns-in_ok-after_word-in-116-clause-is_step c = word_at c.args.text.now true_text
    (boolean true) c.args.position _ c.in_ok-after_word-in-116.ensures true_word (boolean_value true)

pub returns-in_ok-after_word-in-102-clause-is_step : goal.returns-in_ok-after_word-in-102-clause-is_step
returns-in_ok-after_word-in-102-clause-is_step c = word_at c.args.text.now false_text
    (boolean false) c.args.position _ c.in_ok-after_word-in-102.ensures false_word (boolean_value false)

pub returns-in_ok-after_word-in-110-clause-is_step : goal.returns-in_ok-after_word-in-110-clause-is_step
returns-in_ok-after_word-in-110-clause-is_step c =
    word_at c.args.text.now null_text null c.args.position _ c.in_ok-after_word-in-110.ensures null_word null_value

pub returns-in_ok-after_open-in-123-clause-utf8 : goal.returns-in_ok-after_open-in-123-clause-utf8
returns-in_ok-after_open-in-123-clause-utf8 c = subst (IsUtf8UpTo c.args.text.now c.args.position.at) (sym
    (ap (λ position. position.at) c.in_ok-after_open-in-123.ensures.1)) (ascii_passed c.args.text.now c.args.position.at
    (grind arith) (grind arith))

pub returns-in_ok-after_open-in-91-clause-utf8 : goal.returns-in_ok-after_open-in-91-clause-utf8
returns-in_ok-after_open-in-91-clause-utf8 c = subst (IsUtf8UpTo c.args.text.now c.args.position.at) (sym
    (ap (λ position. position.at) c.in_ok-after_open-in-91.ensures.1)) (ascii_passed c.args.text.now c.args.position.at
    (grind arith) (grind arith))

pub returns-in_ok-after_close-in-125-clause-utf8 : goal.returns-in_ok-after_close-in-125-clause-utf8
returns-in_ok-after_close-in-125-clause-utf8 c = subst (IsUtf8UpTo c.args.text.now c.args.position.at) (sym
    (ap (λ position. position.at) c.in_ok-after_close-in-125.ensures.1))
    (ascii_passed c.args.text.now c.args.position.at (grind arith) (grind arith))

pub returns-in_ok-after_close-in-93-clause-utf8 : goal.returns-in_ok-after_close-in-93-clause-utf8
returns-in_ok-after_close-in-93-clause-utf8 c = subst (IsUtf8UpTo c.args.text.now c.args.position.at) (sym
    (ap (λ position. position.at) c.in_ok-after_close-in-93.ensures.1)) (ascii_passed c.args.text.now c.args.position.at
    (grind arith) (grind arith))

pub returns-in_ok-after_word-in-116-clause-utf8 : goal.returns-in_ok-after_word-in-116-clause-utf8
returns-in_ok-after_word-in-116-clause-utf8 c = word_passed c.args.text.now c.args.position.at true_text _
    c.in_ok-after_word-in-116.ensures.1 (low_utf8 true_text refl)

pub returns-in_ok-after_word-in-102-clause-utf8 : goal.returns-in_ok-after_word-in-102-clause-utf8
returns-in_ok-after_word-in-102-clause-utf8 c = word_passed c.args.text.now c.args.position.at false_text _
    c.in_ok-after_word-in-102.ensures.1 (low_utf8 false_text refl)

pub returns-in_ok-after_word-in-110-clause-utf8 : goal.returns-in_ok-after_word-in-110-clause-utf8
returns-in_ok-after_word-in-110-clause-utf8 c = word_passed c.args.text.now c.args.position.at null_text _
    c.in_ok-after_word-in-110.ensures.1 (low_utf8 null_text refl)
