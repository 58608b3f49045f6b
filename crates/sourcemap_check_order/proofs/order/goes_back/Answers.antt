use Rattle.std.proofs.Common.{rules, tests, not, sym}
use Rattle.std.proofs.lemmas.Iterator.{YieldsList-from_slice}
use Rattle.std.proofs.lemmas.Iterator.Search.{any_from_yields_List}
use Rattle.sourcemap_check_segments.specs.Segments.{continues}
use Rattle.sourcemap_check_order.proofs.SignLemmas.{goes_back_is}
use Rattle.sourcemap_check_order.proofs.order.goes_back.Goals as goal

pub returns : goal.returns
returns c =
    let any = any_from_yields_List (λ b. not (continues b)) _ _ c.any-has_number.result c.any-has_number.ensures.ran
    (YieldsList-from_slice c.args.segment.now c.iter.ensures.rest) (λ x b q k. search (rules, tests)) in
    rw (c.unwrap_or.ensures, c.value_of_digit.ensures, any)
    (goes_back_is c.args.segment.now c.in-Some.first.now (sym c.in-Some.ensures.value))
