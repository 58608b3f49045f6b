use Rattle.std.proofs.Common.{◌≢◌, ◌==◌, ◌+◌, ◌∙◌, sym, ap, [], length}
use Rattle.std.specs.Prelude.{count_by}
use Rattle.std.proofs.lemmas.Bool.{eqb-false}
use Rattle.std.proofs.lemmas.List.Splits.{length-slice_split}
use Rattle.sourcemap_check_segments.specs.Segments.{comma}
use Rattle.sourcemap_check_segments.proofs.FindingLemmas.{segments_of-some}
use Rattle.sourcemap_check_order.proofs.ranges.segment_count.Goals as goal

pub returns : goal.returns
returns c =
    let some : c.args.line.now ≢ [] = λ e. eqb-false _ _ (sym c.is_empty.ensures ∙ c.if-is_empty.false) (ap length e) in
    ap (λ n. n + 1) (c.comma_count.ensures ∙ ap (count_by (λ b. b == comma)) c.as_bytes.ensures.value)
    ∙ (sym (length-slice_split (λ b. b == comma) c.args.line.now)
    ∙ ap length (sym (segments_of-some c.args.line.now some)))
