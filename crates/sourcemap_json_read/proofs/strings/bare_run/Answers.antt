use Rattle.std.proofs.Common.{◌≡◌, ◌+◌, ◌-◌, length, length-drop, length-take-le, take, drop, sym, ap, ◌∙◌, subst}
use Rattle.std.proofs.Common.{arith}
use Rattle.sourcemap_json_read.specs.Strings.{IsUtf8UpTo, IsDecodedBetween}
use Rattle.sourcemap_json_read.proofs.StringLemmas.{IsDecodedBetween-bare}
use Rattle.sourcemap_json_read.proofs.Utf8Lemmas.{bare_run_utf8, run_passed}
use Rattle.sourcemap_json_read.proofs.strings.bare_run.Goals as goal

pub from_utf8_unchecked-requires : goal.from_utf8_unchecked-requires
from_utf8_unchecked-requires c = bare_run_utf8 (c.bare_end-end.result
    - c.args.from) (drop c.args.from c.args.text.now) (omega (arith, c.bare_end-end.ensures.value))

pub returns-clause-decodes : goal.returns-clause-decodes
returns-clause-decodes c =
    let text = c.args.text.now in
    let from = c.args.from in
    let n = c.bare_end-end.result - from in
    let run : c.from_utf8_unchecked.result.now ≡ take n (drop from text) = c.from_utf8_unchecked.ensures in
    let long : length c.from_utf8_unchecked.result.now ≡ n = ap length run
    ∙ length-take-le n (drop from text) (omega (arith, c.bare_end-end.ensures.within, length-drop from text)) in
    subst (λ decoded. IsDecodedBetween (drop from text) decoded
    (drop (from + length c.from_utf8_unchecked.result.now) text)) (sym run)
    (subst (λ k. IsDecodedBetween (drop from text) (take n (drop from text)) (drop (from + k) text)) (sym long)
    (IsDecodedBetween-bare text from n (omega (arith, c.bare_end-end.ensures.value))))

pub returns-clause-utf8 : goal.returns-clause-utf8
returns-clause-utf8 c =
    let text = c.args.text.now in
    let from = c.args.from in
    let n = c.bare_end-end.result - from in
    let long : length c.from_utf8_unchecked.result.now ≡ n = ap length c.from_utf8_unchecked.ensures
    ∙ length-take-le n (drop from text) (omega (arith, c.bare_end-end.ensures.within, length-drop from text)) in
    subst (λ k. IsUtf8UpTo text from (from + k)) (sym long)
    (run_passed text from n (bare_run_utf8 n (drop from text) (omega (arith, c.bare_end-end.ensures.value))))
