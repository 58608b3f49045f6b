use Rattle.std.proofs.Common.{refl, ◌≤◌, ◌∙◌, ◌-◌, ◌/◌, arith, length, slice_index}
use Rattle.sourcemap_line_index.proofs.LineIndexLemmas.{Remains-half, raised_on, raised_once, skipped_at_most}
use Rattle.sourcemap_line_index.proofs.LineIndexLemmas.{window_halved}
use Rattle.sourcemap_line_index.proofs.line_index.first_at_line.Goals as goal

pub loop-left-preserved : goal.loop-left-preserved
loop-left-preserved g c =
    let within = c.loop-left.invariant.within in
    let counted = c.skip_by_line-row.ensures.counted in
    let few : c.skip_by_line-row.result ≤ c.loop-left.left - c.loop-left.left / 2 =
    skipped_at_most _ _ _ _ c.skip_by_line-row.ensures.answer in
    record {
      within = omega arith;
      window = rw c.skip_by_line-row.ensures.kept
          (window_halved (slice_index c.args.lines.now)
          (g.P.Probe.position c.loop-left.probe).0 0 c.loop-left.row c.loop-left.left (length c.args.lines.now) _ _ _
          (omega arith) refl refl
          (omega arith) c.requires c.loop-left.invariant.window c.skip_by_line-row.ensures.answer);
      kept = c.skip_by_line-row.ensures.kept ∙ c.loop-left.invariant.kept;
      remains = λ d l. Remains-half _ _ _ _ _ (omega arith) counted (omega arith) (c.loop-left.invariant.remains d l);
      raised = raised_on _ _ _ c.loop-left.invariant.raised counted;
      at_least_one = λ l. raised_once _ _ _ c.loop-left.invariant.raised counted;
    }
