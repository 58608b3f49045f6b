use Rattle.std.proofs.Common.{◌≡◌, ◌+◌, drop, sym, subst, arith}
use Rattle.std.specs.Char.{encode_utf8}
use Rattle.sourcemap_json_read.specs.Strings.{IsUtf8UpTo, IsDecodedBetween, SpellsUnit}
use Rattle.sourcemap_json_read.proofs.EscapeLemmas.{IsDecodedBetween-unit, IsDecodedBetween-pair, unit_passed}
use Rattle.sourcemap_json_read.proofs.EscapeLemmas.{unit_within}
use Rattle.sourcemap_json_read.proofs.Utf8Lemmas.{utf8_on}
use Rattle.sourcemap_json_read.proofs.escapes.unicode_escape.Goals as goal

pub returns-in-Some-clause-decodes : goal.returns-in-Some-clause-decodes
returns-in-Some-clause-decodes c =
    let text = c.args.text.now in
    let at = c.args.at in
    let unit = c.in_ok-unit.unit in
    let spells : SpellsUnit text at unit = c.in_ok-unit.ensures in
    subst (λ u. IsDecodedBetween (drop at text) (encode_utf8 u) (drop (at + 6) text)) (sym c.in-Some.ensures.value.1)
    (IsDecodedBetween-unit text at unit spells c.in-Some.ensures.cases)

pub returns-in-Some-clause-utf8 : goal.returns-in-Some-clause-utf8
returns-in-Some-clause-utf8 c = unit_passed c.args.text.now c.args.at c.in_ok-unit.unit c.in_ok-unit.ensures

pub returns-clause-decodes : goal.returns-clause-decodes
returns-clause-decodes c =
    let text = c.args.text.now in
    let at = c.args.at in
    let unit = c.in_ok-unit.unit in
    let low = c.in_ok-low.low in
    let pair = c.in_ok-character.ensures in
    let first : SpellsUnit text at unit = c.in_ok-unit.ensures in
    let second : SpellsUnit text (at + 6) low = c.in_ok-low.ensures in
    subst (λ u. IsDecodedBetween (drop at text) (encode_utf8 u) (drop (at + 12) text)) (sym pair.value)
    (IsDecodedBetween-pair text at unit low first second pair.high pair.low)

pub returns-clause-utf8 : goal.returns-clause-utf8
returns-clause-utf8 c =
    let text = c.args.text.now in
    let at = c.args.at in
    let last : at + 6 + 6 ≡ at + 12 = omega arith in
    let second : IsUtf8UpTo text (at + 6) (at + 12) =
    subst (IsUtf8UpTo text (at + 6)) last (unit_passed text (at + 6) c.in_ok-low.low c.in_ok-low.ensures) in
    utf8_on text at (at + 6) (at + 12) (unit_passed text at c.in_ok-unit.unit c.in_ok-unit.ensures) second

pub returns-in-Some-clause-within : goal.returns-in-Some-clause-within
returns-in-Some-clause-within c =
    (omega arith, omega (arith, unit_within c.args.text.now c.args.at c.in_ok-unit.unit c.in_ok-unit.ensures))

pub returns-clause-within : goal.returns-clause-within
returns-clause-within c =
    (omega arith, omega (arith, unit_within c.args.text.now (c.args.at + 6) c.in_ok-low.low c.in_ok-low.ensures))
