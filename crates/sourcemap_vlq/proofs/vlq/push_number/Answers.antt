use Rattle.std.proofs.Common.{Bool, true, false, ◌≡◌, ℕ, ◌+◌, ◌*◌, ◌%◌, ◌^◌, ◌<◌, ◌≤◌, List, [], ◌∷◌, ◌++◌, length}
use Rattle.std.proofs.Common.{string_bytes, ◌∙◌, ap, arith, pos, unsigned_abs, to_z, of_z, w64}
use mir.Val.{bool_byte}
use lib.Signed.{lt_z}
use Rattle.std.proofs.lemmas.Int.{to_z-of_z}
use Rattle.std.specs.List.{AllByRecursion}
use Rattle.std.proofs.lemmas.List.{append_assoc, length_push}
use Rattle.sourcemap_vlq.specs.Vlq.{HasContinuation, glyph}
use Rattle.sourcemap_vlq.proofs.DigitLemmas.{glyph-ascii}
use Rattle.sourcemap_vlq.proofs.VlqLemmas.{HasContinuation-push, HasContinuation-glyph, raw_of-split, IsShortest-last}
use Rattle.sourcemap_vlq.proofs.VlqLemmas.{few_so_far, total_of, total_of-parts}
use Rattle.sourcemap_vlq.proofs.vlq.push_number.Goals as goal

sign_small : (b : Bool) → bool_byte b ≤ 1
sign_small true = omega arith
sign_small false = omega arith

pub loop-raw-preserved : goal.loop-raw-preserved
loop-raw-preserved c =
    let part : List ℕ = c.loop-raw.invariant.0 in
    let left : ℕ = c.loop-raw.raw in
    let digit : ℕ = glyph (left % 32 + 32) in
    let code : c.glyph_char.result ≡ digit = c.glyph_char.ensures in
    let ascii : digit < 128 = glyph-ascii (left % 32 + 32) (omega arith) in
    let written : string_bytes c.push.new.self ≡ string_bytes c.reserve.new.self ++ (part ++ digit ∷ []) =
    c.in_ok-push.ensures.bytes
    ∙ (ap (λ xs. string_bytes c.loop-raw.text ++ xs) (c.in_ok-push.ensures.ascii (omega arith) ∙ ap (λ x. x ∷ []) code)
    ∙ (ap (λ xs. xs ++ digit ∷ []) c.loop-raw.invariant.1
    ∙ append_assoc (string_bytes c.reserve.new.self) part (digit ∷ []))) in
    let all : AllByRecursion HasContinuation (part ++ digit ∷ []) =
    HasContinuation-push part digit c.loop-raw.invariant.2 (HasContinuation-glyph (left % 32) (omega arith)) in (
      part ++ digit ∷ [],
      written,
      all,
      raw_of-split part _ left c.loop-raw.invariant.3,
      λ _. omega arith,
      omega (
        arith,
        c.in_ok-push.ensures.len,
        c.in_ok-push.ensures.capacity,
        c.in_ok-push.ensures.ascii_len,
        c.loop-raw.invariant.5,
        length_push part digit,
      ),
    )

pub returns-clause-written : goal.returns-clause-written
returns-clause-written c =
    let part : List ℕ = c.loop-raw.invariant.0 in
    let left : ℕ = c.loop-raw.raw in
    let digit : ℕ = glyph left in
    let code : c.glyph_char-2.result ≡ digit = c.glyph_char-2.ensures in
    let ascii : digit < 128 = glyph-ascii left (omega arith) in
    let written : string_bytes c.push-2.new.self ≡ string_bytes c.reserve.new.self ++ (part ++ digit ∷ []) =
    c.in_ok-push-2.ensures.bytes ∙ (ap (λ xs. string_bytes c.loop-raw.text ++ xs)
    (c.in_ok-push-2.ensures.ascii (omega arith) ∙ ap (λ x. x ∷ []) code)
    ∙ (ap (λ xs. xs ++ digit ∷ []) c.loop-raw.invariant.1
    ∙ append_assoc (string_bytes c.reserve.new.self) part (digit ∷ []))) in
    let whole : to_z w64 (of_z w64 c.args.number) ≡ c.args.number = to_z-of_z w64 c.args.number c.ranges.number in
    let magnitude : c.unsigned_abs-magnitude.result ≡ unsigned_abs c.args.number =
    c.unsigned_abs-magnitude.ensures.value ∙ ap unsigned_abs whole in
    let near : unsigned_abs c.args.number < 2 ^ 62 = omega (arith, c.if-magnitude.false) in
    let sign : c.from.result ≡ bool_byte (lt_z c.args.number (pos 0)) =
    c.from.ensures ∙ ap (λ n. bool_byte (lt_z n (pos 0))) whole in
    let parts : total_of c.args.number ≡ 2 * unsigned_abs c.args.number + bool_byte (lt_z c.args.number (pos 0)) =
    total_of-parts c.args.number in
    let total : total_of c.args.number ≡ 2 * c.unsigned_abs-magnitude.result + c.from.result = omega arith in (
      part ++ digit ∷ [],
      IsShortest-last part c.args.number left c.loop-raw.invariant.2 (omega arith) near
          (total ∙ c.loop-raw.invariant.3) c.loop-raw.invariant.4,
      written ∙ ap (λ xs. xs ++ (part ++ digit ∷ [])) c.reserve.ensures.bytes,
    )

-- `push` cannot fail, since capacity for the maximum number of digits was reserved
pub returns-in_err-push-clause-unchanged : goal.returns-in_err-push-clause-unchanged
returns-in_err-push-clause-unchanged c =
    let part : List ℕ = c.loop-raw.invariant.0 in
    let left : ℕ = c.loop-raw.raw in
    let code : c.glyph_char.result ≡ glyph (left % 32 + 32) = c.glyph_char.ensures in
    let ascii : glyph (left % 32 + 32) < 128 = glyph-ascii (left % 32 + 32) (omega arith) in
    let few : length part ≤ 12 = few_so_far part _ left (omega (
      arith,
      c.if-magnitude.false,
      sign_small (lt_z (to_z w64 (of_z w64 c.args.number)) (pos 0)),
      c.from.ensures,
    )) c.loop-raw.invariant.3 c.loop-raw.invariant.4 in
    let never =
    c.in_err-push.ensures.succeeds (omega (arith, c.in_err-push.ensures.ascii_len, c.loop-raw.invariant.5)) in
    cc

pub returns-in_err-push-2-clause-unchanged : goal.returns-in_err-push-2-clause-unchanged
returns-in_err-push-2-clause-unchanged c =
    let part : List ℕ = c.loop-raw.invariant.0 in
    let left : ℕ = c.loop-raw.raw in
    let code : c.glyph_char-2.result ≡ glyph left = c.glyph_char-2.ensures in
    let ascii : glyph left < 128 = glyph-ascii left (omega arith) in
    let few : length part ≤ 12 = few_so_far part _ left (omega (
      arith,
      c.if-magnitude.false,
      sign_small (lt_z (to_z w64 (of_z w64 c.args.number)) (pos 0)),
      c.from.ensures,
    )) c.loop-raw.invariant.3 c.loop-raw.invariant.4 in
    let never =
    c.in_err-push-2.ensures.succeeds (omega (arith, c.in_err-push-2.ensures.ascii_len, c.loop-raw.invariant.5)) in
    cc
