use Rattle.std.proofs.Common.{◌≡◌, ℕ, ◌+◌, ◌*◌, ◌<◌, ◌==◌, false, List, [], ◌∷◌, ◌++◌, length, string_bytes, sym, ◌∙◌}
use Rattle.std.proofs.Common.{ap, arith}
use Rattle.std.specs.List.{slice_index_or}
use Rattle.std.specs.Int.{bit_at}
use Rattle.std.proofs.lemmas.List.{append_assoc, length_push}
use Rattle.sourcemap_vlq.specs.Vlq.{glyph}
use Rattle.sourcemap_vlq.specs.Bits.{IsBitText}
use Rattle.sourcemap_vlq.proofs.DigitLemmas.{glyph-ascii}
use Rattle.sourcemap_vlq.proofs.BitLemmas.{Begins-push, IsBitText-whole}
use Rattle.sourcemap_vlq.proofs.bits.push_bits.Goals as goal

pub loop-digit-preserved : goal.loop-digit-preserved
loop-digit-preserved c =
    let part : List ℕ = c.loop-digit.invariant.0 in
    let len : length part ≡ c.loop-digit.digit = c.loop-digit.invariant.2 in
    let value : ℕ = c.value_from.result in
    let low : value < 64 = c.value_from.ensures.small in
    let code : c.glyph_char.result ≡ glyph value = c.glyph_char.ensures in
    let ascii : glyph value < 128 = glyph-ascii value low in
    let written : string_bytes c.push.new.self ≡ string_bytes c.reserve.new.self ++ (part ++ glyph value ∷ []) =
    c.in_ok-push.ensures.bytes ∙ (ap (λ xs. string_bytes c.loop-digit.text ++ xs)
    (c.in_ok-push.ensures.ascii (omega arith) ∙ ap (λ x. x ∷ []) code)
    ∙ (ap (λ xs. xs ++ glyph value ∷ []) c.loop-digit.invariant.1
    ∙ append_assoc (string_bytes c.reserve.new.self) part (glyph value ∷ []))) in
    let six : (k : ℕ) → k < 6 → (bit_at value k == 1) ≡ slice_index_or c.args.bits.now (6 * length part + k) false =
    λ k h. c.value_from.ensures.each k h ∙ ap (λ n. slice_index_or c.args.bits.now (6 * n + k) false) (sym len) in
    let longer : length (part ++ glyph value ∷ []) ≡ c.loop-digit.digit + 1 =
    omega (arith, length_push part (glyph value)) in (
      part ++ glyph value ∷ [],
      written,
      longer,
      Begins-push c.args.bits.now part value c.loop-digit.invariant.3 low six,
      omega (
        arith,
        c.in_ok-push.ensures.len,
        c.in_ok-push.ensures.capacity,
        c.in_ok-push.ensures.ascii_len,
        c.loop-digit.invariant.4,
      ),
    )

pub returns-clause-written : goal.returns-clause-written
returns-clause-written c =
    let part : List ℕ = c.loop-digit.invariant.0 in
    let len : length part ≡ c.digit_count-digits.result = omega (arith, c.loop-digit.invariant.2) in
    let whole : IsBitText c.args.bits.now part =
    IsBitText-whole c.args.bits.now part c.digit_count-digits.result c.loop-digit.invariant.3 len
    c.digit_count-digits.ensures.rest c.digit_count-digits.ensures.last in
    (part, whole, c.loop-digit.invariant.1 ∙ ap (λ xs. xs ++ part) c.reserve.ensures.bytes)

-- `push` cannot fail, since capacity for all digits was reserved
pub returns-in_err-push-clause-unchanged : goal.returns-in_err-push-clause-unchanged
returns-in_err-push-clause-unchanged c =
    let code : c.glyph_char.result ≡ glyph c.value_from.result = c.glyph_char.ensures in
    let ascii : glyph c.value_from.result < 128 = glyph-ascii c.value_from.result c.value_from.ensures.small in
    let never = c.in_err-push.ensures.succeeds (omega
    (arith, c.in_err-push.ensures.ascii_len, c.loop-digit.invariant.4, c.loop-digit-test.true)) in
    cc
