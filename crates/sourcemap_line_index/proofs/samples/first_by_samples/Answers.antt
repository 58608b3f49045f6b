use Rattle.std.proofs.Common.{subst, ◌<◌, ◌≤◌, ◌-◌, arith, length}
use Rattle.sourcemap_line_index.specs.LineIndex.{col_at}
use Rattle.sourcemap_line_index.proofs.SamplesLemmas.{count_by_samples, narrowed, narrowed_before, narrowed_from}
use Rattle.sourcemap_line_index.proofs.SamplesLemmas.{samples_rise, some_from_test}
use Rattle.sourcemap_line_index.proofs.samples.first_by_samples.Goals as goal

pub first_sample-index-requires-clause-rises : goal.first_sample-index-requires-clause-rises
first_sample-index-requires-clause-rises g c =
    let are = c.requires.sampled (some_from_test _ c.if-is_empty.ensures) in
    let all = are.all in
    let within = c.requires.rising.within in
    samples_rise c.args.tokens.now c.args.samples.now c.args.first c.args.end c.div_ceil-low.result
    c.div_ceil-high.result are c.requires.rising.rises
    (omega (arith, c.div_ceil-low.ensures)) (omega (arith, c.div_ceil-high.ensures))
    (omega (arith, c.div_ceil-high.ensures))

pub first_linear-requires : goal.first_linear-requires
first_linear-requires g c =
    let there = c.first_sample-index.ensures in
    narrowed c.args.tokens.now c.args.first c.args.end c.max-from.result c.min.result c.requires.rising
    (omega (arith, c.max-from.ensures)) (omega (arith, c.max-from.ensures, c.saturating_sub.ensures, c.min.ensures))
    (omega (arith, c.min.ensures))

pub returns-clause-found : goal.returns-clause-found
returns-clause-found g c =
    let are = c.requires.sampled (some_from_test _ c.if-is_empty.ensures) in
    let all = are.all in
    let within = c.requires.rising.within in
    let there = c.first_sample-index.ensures in
    let here = c.first_linear.ensures.found in
    let least = here.at_least in
    let most = here.at_most in
    record {
      at_least = omega (arith, c.max-from.ensures);
      at_most = omega (arith, c.min.ensures);
      before = λ d l. narrowed_before c.args.tokens.now c.args.samples.now c.args.first c.args.end c.div_ceil-low.result
          c.div_ceil-high.result c.first_sample-index.result (g.P.Probe.position c.args.probe.now).1 are
          (omega (arith, c.div_ceil-low.ensures)) (omega (arith, c.div_ceil-high.ensures))
          (omega (arith, c.div_ceil-high.ensures)) there.at_least there.at_most
          there.before c.max-from.result c.first_linear.result
          (omega (arith, c.max-from.ensures, c.saturating_sub.ensures)) here.at_least
          d (subst (λ p. c.max-from.result < c.first_linear.result
          → col_at c.args.tokens.now d (c.first_linear.result - 1) < p.1) there.kept (here.before d)) l;
      from = λ d l. narrowed_from c.args.tokens.now c.args.samples.now c.args.first c.args.end c.div_ceil-low.result
          c.div_ceil-high.result c.first_sample-index.result (g.P.Probe.position c.args.probe.now).1 are
          (omega (arith, c.div_ceil-low.ensures)) (omega (arith, c.div_ceil-high.ensures))
          (omega (arith, c.div_ceil-high.ensures)) there.at_least there.at_most
          there.from c.min.result c.first_linear.result c.min.ensures here.at_most
          d (subst (λ p. c.first_linear.result < c.min.result
          → p.1 ≤ col_at c.args.tokens.now d c.first_linear.result) there.kept (here.from d)) l;
    }

pub returns-clause-counted : goal.returns-clause-counted
returns-clause-counted g c = λ d l.
    let long = c.if-end-first-lt-SPACING.false in
    let there = c.first_sample-index.ensures in
    count_by_samples d (length c.args.tokens.now) c.args.end c.div_ceil-low.result c.div_ceil-high.result
    c.max-from.result c.min.result _ _ _ l (omega arith) c.requires.rising.within
    (omega (arith, c.div_ceil-high.ensures)) (omega
    (arith, c.max-from.ensures, c.saturating_sub.ensures, c.min.ensures)) there.counted c.first_linear.ensures.counted
