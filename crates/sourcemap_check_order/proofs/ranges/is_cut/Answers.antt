use Rattle.std.proofs.Common.{◌∙◌, sym, ap}
use Rattle.sourcemap_check_segments.specs.Segments.{is_cut}
use Rattle.sourcemap_check_segments.proofs.SegmentLemmas.{is_cut-last}
use Rattle.sourcemap_check_order.proofs.ranges.is_cut.Goals as goal

pub returns-in-Some : goal.returns-in-Some
returns-in-Some c =
    c.continues.ensures ∙ sym (ap is_cut c.in-Some.ensures.cases.0 ∙ is_cut-last c.in-Some.field-0-1.now _)
