use Rattle.std.proofs.Common.{refl, ◌≤◌, ◌∙◌, ◌-◌, ◌/◌, arith, slice_index}
use Rattle.sourcemap_line_index.proofs.LineIndexLemmas.{Remains-half, raised_on, skipped_at_most, window_halved}
use Rattle.sourcemap_line_index.proofs.samples.first_sample.Goals as goal

pub loop-left-preserved : goal.loop-left-preserved
loop-left-preserved g c =
    let within = c.loop-left.invariant.within in
    let counted = c.skip_by_column-sample.ensures.counted in
    let few : c.skip_by_column-sample.result ≤ c.loop-left.left - c.loop-left.left / 2 =
    skipped_at_most _ _ _ _ c.skip_by_column-sample.ensures.answer in
    record {
      at_least = let least = c.loop-left.invariant.at_least in omega arith;
      within = omega arith;
      window = rw c.skip_by_column-sample.ensures.kept
          (window_halved (slice_index c.args.samples.now)
          (g.P.Probe.position c.loop-left.probe).1 c.args.first c.loop-left.sample c.loop-left.left c.args.end _ _ _
          (omega arith) refl refl c.loop-left.invariant.at_least c.requires.rises c.loop-left.invariant.window
          c.skip_by_column-sample.ensures.answer);
      kept = c.skip_by_column-sample.ensures.kept ∙ c.loop-left.invariant.kept;
      remains = λ d l. Remains-half _ _ _ _ _ (omega arith) counted (omega arith) (c.loop-left.invariant.remains d l);
      raised = raised_on _ _ _ c.loop-left.invariant.raised counted;
    }
