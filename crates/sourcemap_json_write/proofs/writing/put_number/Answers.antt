use Rattle.std.proofs.Common.{◌≡◌, ℤ, Some, w64, to_z, of_z, sym, ap, ◌∙◌, arith, rules}
use Rattle.serde_json.specs.View.{number_view}
use Rattle.sourcemap_json_write.proofs.WritingLemmas.{plain_unsigned, plain_negative}
use Rattle.sourcemap_json_write.proofs.writing.put_number.Goals as goal

pub returns-in-Some-clause-plain : goal.returns-in-Some-clause-plain
returns-in-Some-clause-plain c =
    plain_unsigned (number_view c.args.number.now) c.in-Some.whole (sym c.in-Some.ensures) (omega arith)

pub returns-clause-plain : goal.returns-clause-plain
returns-clause-plain c =
    let found = c.in-Some-as_i64.negative in
    let z : ℤ = to_z w64 (of_z w64 found) in
    let same : found ≡ z = search rules in
    let tested = c.is_below_zero.ensures in
    plain_negative (number_view c.args.number.now) z (sym c.in-Some-as_i64.ensures ∙ ap Some same)
    (search rules) tested.fits
