use Rattle.std.proofs.Common.{◌≡◌, ◌%◌, ◌∙◌, sym, arith, Some}
use Rattle.sourcemap_vlq.specs.Vlq.{digit_value}
use Rattle.sourcemap_check_segments.specs.Segments.{raws_of, has_foreign}
use Rattle.sourcemap_check_segments.proofs.SegmentLemmas.{not_foreign, raws_of-more, raws_of-next}
use Rattle.sourcemap_check_segments.proofs.segment.with_byte.Goals as goal

pub returns-then-digit-ge32 : goal.returns-then-digit-ge32
returns-then-digit-ge32 c = λ bytes d.
    let digit : digit_value c.args.byte ≡ Some c.in-Some.digit = sym c.value_of_digit.ensures ∙ c.in-Some.is in
    let low : c.from.result ≡ c.in-Some.digit % 32 = omega arith in
    record {
      foreign = c.with_digit.ensures.foreign ∙ (d.foreign ∙ sym (not_foreign _ _ (has_foreign bytes) digit));
      raws = rw (raws_of-more _ _ bytes digit c.if-digit-ge32.true, ← low)
          (c.with_digit.ensures.numbers (raws_of bytes) d.raws);
    }

pub returns-else-digit-ge32 : goal.returns-else-digit-ge32
returns-else-digit-ge32 c = λ bytes d.
    let digit : digit_value c.args.byte ≡ Some c.in-Some.digit = sym c.value_of_digit.ensures ∙ c.in-Some.is in
    let low : c.from-else-digit-ge32.result ≡ c.in-Some.digit = omega arith in
    record {
      foreign = c.with_number-else-digit-ge32.ensures.foreign
          ∙ (d.foreign ∙ sym (not_foreign _ _ (has_foreign bytes) digit));
      raws = rw (raws_of-next _ _ bytes digit c.if-digit-ge32.false, ← low)
          (c.with_number-else-digit-ge32.ensures.numbers (raws_of bytes) d.raws);
    }
