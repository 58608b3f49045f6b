use Rattle.std.proofs.Common.{◌+◌, get_or, Some, ap, ◌∙◌, arith}
use Rattle.sourcemap_json_read.proofs.EscapeLemmas.{unit_of_digits}
use Rattle.sourcemap_json_read.proofs.escapes.code_unit.Goals as goal

pub returns : goal.returns
returns c =
    let text = c.args.text.now in
    let at = c.args.at in
    let first = c.in_ok-first.ensures in
    let second = c.in_ok-second.ensures in
    let third = c.in_ok-third.ensures in
    let fourth = c.in_ok-fourth.ensures in
    let unit = unit_of_digits (get_or text (at + 2) 32) (get_or text (at + 3) 32) (get_or text (at + 4) 32) (get_or text
    (at + 5) 32)
    (omega (arith, first.value, first.small)) (omega (arith, second.value, second.small))
    (omega (arith, third.value, third.small)) (omega (arith, fourth.value, fourth.small)) in
    record {
      backslash = cc;
      letter = cc;
      digits = unit ∙ ap Some (omega (arith, first.value, second.value, third.value, fourth.value));
    }
