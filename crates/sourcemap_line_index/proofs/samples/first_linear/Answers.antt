use Rattle.std.proofs.Common.{ap, subst, ◌∙◌, ◌<◌, ◌≤◌, ◌-◌, arith, length, if◌then◌else◌, nat_lt}
use Rattle.std.proofs.lemmas.List.{get_or_default}
use Rattle.sourcemap_tokens.specs.declared.tokens.RawToken.{RawToken}
use Rattle.sourcemap_line_index.specs.LineIndex.{col_at}
use Rattle.sourcemap_line_index.proofs.LineIndexLemmas.{raised_on, skipped_at_most}
use Rattle.sourcemap_line_index.proofs.SamplesLemmas.{passed_one}
use Rattle.sourcemap_line_index.proofs.samples.first_linear.Goals as goal

pub loop-at-preserved : goal.loop-at-preserved
loop-at-preserved g c =
    let least = c.loop-at.invariant.at_least in
    let within = c.loop-at.invariant.within in
    let counted = c.skip_by_column-index.ensures.counted in
    let before = c.loop-at.invariant.counted in
    let few : c.skip_by_column-index.result ≤ 1 = skipped_at_most _ _ _ _ c.skip_by_column-index.ensures.answer in
    let inside : c.loop-at.at < length c.args.tokens.now = omega (arith, c.loop-at-test.true, c.requires.within) in
    record {
      at_least = omega arith;
      within = omega arith;
      passed = λ d. rw c.skip_by_column-index.ensures.kept
          (passed_one (col_at c.args.tokens.now d)
          (g.P.Probe.position c.loop-at.probe).1 c.args.first c.args.end c.loop-at.index c.loop-at.at _
          (c.requires.rises d) least within c.loop-at-test.true
          (c.skip_by_column-index.ensures.answer
          ∙ ap (λ (t : RawToken). if nat_lt t.dst_col (g.P.Probe.position c.loop-at.probe).1 then 1 else 0)
          (get_or_default c.args.tokens.now c.loop-at.at _ d inside))
          (c.loop-at.invariant.passed d));
      kept = c.skip_by_column-index.ensures.kept ∙ c.loop-at.invariant.kept;
      counted = omega arith;
      raised = raised_on _ _ _ c.loop-at.invariant.raised counted;
    }

pub returns-clause-found : goal.returns-clause-found
returns-clause-found g c =
    let within = c.loop-at.invariant.within in
    record {
      at_least = c.loop-at.invariant.at_least;
      at_most = omega arith;
      before = λ d l. subst (λ p. col_at c.args.tokens.now d (c.loop-at.index - 1)
          < p.1) c.loop-at.invariant.kept ((c.loop-at.invariant.passed d).before l);
      from = λ d l. subst (λ p. p.1 ≤ col_at c.args.tokens.now d c.loop-at.index) c.loop-at.invariant.kept
          ((c.loop-at.invariant.passed d).from (omega arith));
    }
