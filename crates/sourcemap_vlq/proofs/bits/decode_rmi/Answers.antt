use Rattle.std.proofs.Common.{◌≡◌, ◌<◌, ◌++◌, length, take, get_or, None, Some, Ok, Err, sym, ◌∙◌, ap, arith}
use Rattle.std.proofs.lemmas.List.{take_all}
use Rattle.sourcemap_vlq.specs.Vlq.{digit_value}
use Rattle.sourcemap_vlq.specs.Bits.{first_non_digit}
use Rattle.sourcemap_errors.specs.declared.errors.Error.TheVariants.{InvalidBase64}
use Rattle.sourcemap_vlq.proofs.BitLemmas.{IsNonDigitError-at, bits_of, bits_of-more, first_non_digit-more}
use Rattle.sourcemap_vlq.proofs.BitLemmas.{AreBitsOf-bits_of, BitAnswers-same}
use Rattle.sourcemap_vlq.proofs.bits.decode_rmi.Goals as goal

pub returns-in_default-clause-answers : goal.returns-in_default-clause-answers
returns-in_default-clause-answers c =
    let text = c.as_bytes-byte-items.ensures.value in
    let at : get_or c.args.text.now c.loop-byte.byte-index 0 ≡ c.from.result = cc (text, c.from.ensures) in
    let none : digit_value c.from.result ≡ None =
    ap digit_value c.from.ensures ∙ (sym c.value_of_digit.ensures ∙ c.in_default.is) in
    IsNonDigitError-at c.args.text.now c.loop-byte.byte-index c.from.result
    (omega (arith, ap length text)) c.loop-byte.invariant.0 at none

pub returns-in_default-clause-only : goal.returns-in_default-clause-only
returns-in_default-clause-only c answer due =
    BitAnswers-same c.args.text.now answer (Err (InvalidBase64 c.from.result)) due (returns-in_default-clause-answers c)

pub loop-byte-preserved : goal.loop-byte-preserved
loop-byte-preserved c =
    let text = c.as_bytes-byte-items.ensures.value in
    let within : c.loop-byte.byte-index < length c.args.text.now = omega (arith, ap length text) in
    let e : digit_value (get_or c.args.text.now c.loop-byte.byte-index 0) ≡ Some c.in-Some.value =
    ap (λ t. digit_value (get_or t c.loop-byte.byte-index 0)) (sym text)
    ∙ (sym c.value_of_digit.ensures ∙ c.in-Some.is) in
    let pushed : c.extend_from_slice.new.self.items ≡ c.loop-byte.bits.items ++ c.bits_of_value.result =
    c.in_ok-extend_from_slice.ensures.items in (
      first_non_digit-more c.args.text.now c.loop-byte.byte-index c.in-Some.value within c.loop-byte.invariant.0 e,
      pushed ∙ (ap (λ bits. bits ++ c.bits_of_value.result) c.loop-byte.invariant.1
          ∙ (ap (λ six. bits_of (take c.loop-byte.byte-index c.args.text.now) ++ six) c.bits_of_value.ensures
          ∙ sym (bits_of-more c.args.text.now c.loop-byte.byte-index c.in-Some.value within e))),
    )

pub returns-clause-answers : goal.returns-clause-answers
returns-clause-answers c =
    let text = c.as_bytes-byte-items.ensures.value in
    let whole : take c.loop-byte.byte-index c.args.text.now ≡ c.args.text.now =
    take_all c.loop-byte.byte-index c.args.text.now (omega (arith, ap length text)) in
    let none : first_non_digit c.args.text.now ≡ None = ap first_non_digit (sym whole) ∙ c.loop-byte.invariant.0 in
    let bits : c.loop-byte.bits.items ≡ bits_of c.args.text.now = c.loop-byte.invariant.1 ∙ ap bits_of whole in
    rw bits (AreBitsOf-bits_of c.args.text.now none)

pub returns-clause-only : goal.returns-clause-only
returns-clause-only c answer due =
    BitAnswers-same c.args.text.now answer (Ok c.loop-byte.bits.items) due (returns-clause-answers c)
