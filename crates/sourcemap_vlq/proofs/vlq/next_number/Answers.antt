use Rattle.std.proofs.Common.{◌≡◌, ◌<◌, length, drop, sym, ◌∙◌, ap, arith, to_z, of_z, w64}
use Rattle.std.proofs.lemmas.List.{take_rest}
use Rattle.std.proofs.lemmas.Int.{ints}
use Rattle.sourcemap_vlq.specs.Vlq.{BeginsWith, number_of}
use Rattle.sourcemap_vlq.proofs.VlqLemmas.{BeginsWith-first}
use Rattle.sourcemap_vlq.proofs.vlq.next_number.Goals as goal

pub returns-then-digit-lt32-clause-number : goal.returns-then-digit-lt32-clause-number
returns-then-digit-lt32-clause-number c =
    let some : 0 < length c.args.text.now = omega arith in
    let begins : BeginsWith c.args.text.now (number_of c.in-Some.digit) (drop 1 c.args.text.now) =
    BeginsWith-first c.args.text.now c.in-Some.digit some
    (sym c.value_of_digit.ensures ∙ c.in-Some.is) c.if-digit-lt32.true in
    let is_number : c.number_from.result ≡ number_of c.in-Some.digit =
    c.number_from.ensures ∙ ap number_of c.from.ensures in
    let whole : to_z w64 (of_z w64 c.number_from.result) ≡ c.number_from.result = omega (arith, ints) in
    rw (whole, is_number, take_rest c.args.text.now 1) begins
