use Rattle.std.proofs.Common.{◌≡◌, ◌+◌, ◌*◌, ◌%◌, ◌<◌, ◌≤◌, Some, length, get_or, drop, sym, ◌∙◌, ap, arith, to_z, of_z}
use Rattle.std.proofs.Common.{w64}
use Rattle.std.proofs.lemmas.List.{take_rest}
use Rattle.std.proofs.lemmas.Int.{ints}
use Rattle.sourcemap_vlq.specs.Vlq.{BeginsWith, number_of, digit_value}
use Rattle.sourcemap_vlq.proofs.VlqLemmas.{BeginsWith-second}
use Rattle.sourcemap_vlq.proofs.vlq.two_digits.Goals as goal

pub returns : goal.returns
returns c =
    let text = c.args.text.now in
    let low = c.in_ok-low.low in
    let high = c.in_ok-high.high in
    let two : 1 < length text = omega arith in
    let first : digit_value (get_or text 0 0) ≡ Some low = sym c.value_of_digit.ensures ∙ c.in_ok-low.was in
    let second : digit_value (get_or text 1 0) ≡ Some high = sym c.value_of_digit-2.ensures ∙ c.in_ok-high.was in
    let goes : 32 ≤ low = omega arith in
    let last : high < 32 = omega arith in
    let begins : BeginsWith text (number_of (low % 32 + 32 * high)) (drop 2 text) =
    BeginsWith-second text low high two first goes second last in
    let raw : c.from.result + 32 * c.from-2.result ≡ low % 32 + 32 * high = omega arith in
    let is_number : c.number_from.result ≡ number_of (low % 32 + 32 * high) =
    c.number_from.ensures ∙ ap number_of raw in
    let whole : to_z w64 (of_z w64 c.number_from.result) ≡ c.number_from.result = omega (arith, ints) in
    rw (whole, is_number, take_rest text 2) begins
