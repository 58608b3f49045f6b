use Rattle.std.proofs.Common.{◌≡◌, ◌+◌, take, drop, sym, ◌∙◌, ap, arith, to_z, of_z, w64}
use Rattle.std.proofs.lemmas.List.{take_rest}
use Rattle.std.proofs.lemmas.Int.{ints}
use Rattle.sourcemap_vlq.specs.Vlq.{digit_value, raw_of, number_of, BeginsWith}
use Rattle.sourcemap_vlq.proofs.VlqLemmas.{NumberError-non_digit, NumberError-great, BeginsWith-last, IsUnfinished-more}
use Rattle.sourcemap_vlq.proofs.VlqLemmas.{sum_of-more}
use Rattle.sourcemap_vlq.proofs.vlq.long_number.Goals as goal

pub returns-in_default-clause-error : goal.returns-in_default-clause-error
returns-in_default-clause-error c =
    NumberError-non_digit c.args.text.now c.loop-index.index c.from.result c.loop-index-test.true
    c.loop-index.invariant.0 (sym c.from.ensures)
    (ap digit_value c.from.ensures ∙ (sym c.value_of_digit.ensures ∙ c.in_default.is))

pub returns-then-not-fits_in_number-clause-error : goal.returns-then-not-fits_in_number-clause-error
returns-then-not-fits_in_number-clause-error c =
    NumberError-great c.args.text.now c.loop-index.index c.in-Some.digit c.loop-index-test.true
    c.loop-index.invariant.0 (sym c.value_of_digit.ensures ∙ c.in-Some.is)
    (sym c.fits_in_number.ensures ∙ c.if-not-fits_in_number.true)

pub overflow_add-raw : goal.overflow_add-raw
overflow_add-raw c =
    let sum =
    sum_of-more c.args.text.now c.loop-index.index c.in-Some.digit c.loop-index.raw c.from-in-loop-index.result
    c.loop-index-test.true c.loop-index.invariant.0 (sym c.value_of_digit.ensures ∙ c.in-Some.is)
    (sym c.fits_in_number.ensures
    ∙ c.if-not-fits_in_number.false) c.loop-index.invariant.1 c.from-in-loop-index.ensures in
    omega (arith, sum.0, sum.1)

pub number_from-requires : goal.number_from-requires
number_from-requires c =
    let sum =
    sum_of-more c.args.text.now c.loop-index.index c.in-Some.digit c.loop-index.raw c.from-in-loop-index.result
    c.loop-index-test.true c.loop-index.invariant.0 (sym c.value_of_digit.ensures ∙ c.in-Some.is)
    (sym c.fits_in_number.ensures
    ∙ c.if-not-fits_in_number.false) c.loop-index.invariant.1 c.from-in-loop-index.ensures in
    omega (arith, sum.0, sum.1)

pub returns-then-digit-lt32-clause-number : goal.returns-then-digit-lt32-clause-number
returns-then-digit-lt32-clause-number c =
    let text = c.args.text.now in
    let n = c.loop-index.index in
    let sum = sum_of-more text n c.in-Some.digit c.loop-index.raw c.from-in-loop-index.result
    c.loop-index-test.true c.loop-index.invariant.0 (sym c.value_of_digit.ensures ∙ c.in-Some.is)
    (sym c.fits_in_number.ensures
    ∙ c.if-not-fits_in_number.false) c.loop-index.invariant.1 c.from-in-loop-index.ensures in
    let begins : BeginsWith text (number_of (raw_of (take (n + 1) text))) (drop (n + 1) text) =
    BeginsWith-last text n c.in-Some.digit
    c.loop-index-test.true c.loop-index.invariant.0 (sym c.value_of_digit.ensures ∙ c.in-Some.is) c.if-digit-lt32.true
    (sym c.fits_in_number.ensures ∙ c.if-not-fits_in_number.false) in
    let is_number : c.number_from.result ≡ number_of (raw_of (take (n + 1) text)) =
    c.number_from.ensures ∙ ap number_of sum.0 in
    let whole : to_z w64 (of_z w64 c.number_from.result) ≡ c.number_from.result = omega (arith, ints) in
    rw (whole, is_number, take_rest text (n + 1)) begins

pub loop-index-preserved : goal.loop-index-preserved
loop-index-preserved c =
    let sum =
    sum_of-more c.args.text.now c.loop-index.index c.in-Some.digit c.loop-index.raw c.from-in-loop-index.result
    c.loop-index-test.true c.loop-index.invariant.0 (sym c.value_of_digit.ensures ∙ c.in-Some.is)
    (sym c.fits_in_number.ensures
    ∙ c.if-not-fits_in_number.false) c.loop-index.invariant.1 c.from-in-loop-index.ensures in (
      IsUnfinished-more c.args.text.now c.loop-index.index c.in-Some.digit c.loop-index-test.true
          c.loop-index.invariant.0
          (sym c.value_of_digit.ensures ∙ c.in-Some.is) c.if-digit-lt32.false
          (sym c.fits_in_number.ensures ∙ c.if-not-fits_in_number.false),
      sum.0,
    )
