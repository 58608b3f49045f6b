use Rattle.std.proofs.Common.{◌≡◌, refl, ap, subst, ◌∙◌, ◌<◌, ◌≤◌, ◌+◌, ◌-◌, ◌/◌, arith, if◌then◌else◌, nat_lt}
use Rattle.std.proofs.lemmas.List.{get_or_default}
use Rattle.sourcemap_tokens.specs.declared.tokens.RawToken.{RawToken}
use Rattle.sourcemap_line_index.specs.LineIndex.{col_at}
use Rattle.sourcemap_line_index.proofs.LineIndexLemmas.{Remains-half, raised_on, skipped_at_most, window_halved}
use Rattle.sourcemap_line_index.proofs.samples.first_at_column.Goals as goal

pub loop-left-preserved : goal.loop-left-preserved
loop-left-preserved g c =
    let within = c.loop-left.invariant.within in
    let counted = c.skip_by_column-index.ensures.counted in
    let few : c.skip_by_column-index.result ≤ c.loop-left.left - c.loop-left.left / 2 =
    skipped_at_most _ _ _ _ c.skip_by_column-index.ensures.answer in
    record {
      at_least = let least = c.loop-left.invariant.at_least in omega arith;
      within = omega arith;
      window = λ d. rw c.skip_by_column-index.ensures.kept
          (window_halved (col_at c.args.tokens.now d)
          (g.P.Probe.position c.loop-left.probe).1 c.args.first c.loop-left.index c.loop-left.left c.args.end _ _ _
          (omega arith) refl refl c.loop-left.invariant.at_least (c.requires.rises d) (c.loop-left.invariant.window d)
          (c.skip_by_column-index.ensures.answer ∙ ap (λ (t : RawToken). if nat_lt t.dst_col
          (g.P.Probe.position c.loop-left.probe).1 then c.loop-left.left - c.loop-left.left / 2 else 0)
          (get_or_default c.args.tokens.now (c.loop-left.index + (c.loop-left.left - c.loop-left.left / 2) - 1) _ d
          (omega arith))));
      kept = c.skip_by_column-index.ensures.kept ∙ c.loop-left.invariant.kept;
      remains = λ d l. Remains-half _ _ _ _ _ (omega arith) counted (omega arith) (c.loop-left.invariant.remains d l);
      raised = raised_on _ _ _ c.loop-left.invariant.raised counted;
    }

pub returns-clause-found : goal.returns-clause-found
returns-clause-found g c =
    let within = c.loop-left.invariant.within in
    record {
      at_least = c.loop-left.invariant.at_least;
      at_most = omega arith;
      before = λ d l. subst (λ p. col_at c.args.tokens.now d (c.loop-left.index - 1)
          < p.1) c.loop-left.invariant.kept ((c.loop-left.invariant.window d).before l);
      from = λ d l.
          let here : c.loop-left.index + c.loop-left.left ≡ c.loop-left.index = omega arith in
          let from = (c.loop-left.invariant.window d).from (omega arith) in
          subst (λ p. p.1 ≤ col_at c.args.tokens.now d c.loop-left.index) c.loop-left.invariant.kept
          (subst (λ k. (g.P.Probe.position c.loop-left.probe).1 ≤ col_at c.args.tokens.now d k) here from);
    }
