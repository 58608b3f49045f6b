use Rattle.std.proofs.Common.{◌≡◌, None, sym, ◌∙◌, ap}
use Rattle.sourcemap_vlq.specs.Vlq.{digit_value}
use Rattle.sourcemap_vlq.proofs.BitLemmas.{IsNonDigitError-at, first_non_digit-more}
use Rattle.sourcemap_vlq.proofs.bits.test_digits.Goals as goal

pub returns-in_default : goal.returns-in_default
returns-in_default c =
    let none : digit_value c.from.result ≡ None =
    ap digit_value c.from.ensures ∙ (sym c.value_of_digit.ensures ∙ c.in_default.is) in
    IsNonDigitError-at c.args.text.now c.loop-byte.byte-index c.from.result c.loop-byte-test.true c.loop-byte.invariant
    (sym c.from.ensures) none

pub loop-byte-preserved : goal.loop-byte-preserved
loop-byte-preserved c =
    first_non_digit-more c.args.text.now c.loop-byte.byte-index c.in-Some._value c.loop-byte-test.true
    c.loop-byte.invariant (sym c.value_of_digit.ensures ∙ c.in-Some.is)
