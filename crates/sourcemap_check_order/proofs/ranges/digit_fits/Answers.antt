use Rattle.std.proofs.Common.{◌^◌, ◌∙◌, sym, ap, min, nat_lt, false, arith}
use Rattle.std.specs.Option.{option_map_or}
use Rattle.sourcemap_check_order.proofs.RangeLemmas.{limit_is}
use Rattle.sourcemap_check_order.proofs.ranges.digit_fits.Goals as goal

pub returns-in-Some : goal.returns-in-Some
returns-in-Some c =
    rw (c.min.ensures, limit_is (min c.args.left 6) (omega arith))
    (sym (ap (λ o. option_map_or (λ v. nat_lt v (2 ^ min c.args.left 6)) o false)
    (sym c.value_of_digit.ensures ∙ c.in-Some.is)))
