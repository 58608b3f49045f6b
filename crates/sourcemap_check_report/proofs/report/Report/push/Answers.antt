use Rattle.std.proofs.Common.{◌≡◌, ◌<◌, ◌≤◌, ◌∙◌, ap, arith, slice_index, length, rules, min, ◌+◌, subst, get_or, refl}
use Rattle.sourcemap_check_report.specs.Numbers.{number_of}
use Rattle.sourcemap_check_report.proofs.ReportLemmas.{Reports-kept, Reports-counted}
use Rattle.sourcemap_check_report.proofs.report.Report.push.Goals as goal
use Rattle.sourcemap_check_report.proofs.report.Report.push.Goals.{then-count-most+in_ok-push, else-count-most}

pub returns-clause-added : goal.returns-clause-added
returns-clause-added c = λ all reports.
    let at : c.number_of-at.result ≡ number_of c.args.finding.rule = c.number_of-at.ensures.number in
    let sized : length c.args.self.now.counts ≡ 41 = search rules in
    let within : number_of c.args.finding.rule < length c.args.self.now.counts =
    omega (arith, at, sized, c.number_of-at.ensures.small) in
    let next = ap (λ i. min (get_or c.args.self.now.counts i 0 + 1) 18446744073709551615) at in
    let most : c.args.most < 18446744073709551616 = omega arith in
    elim c.if-count-most.branch [
      | then-count-most+in_ok-push w ↦
          let few : slice_index c.args.self.now.counts (number_of c.args.finding.rule) < c.args.most =
          subst (λ i. get_or c.args.self.now.counts i 0 < c.args.most) at w.if-count-most.true in
          rw (w.self-is, at)
          (Reports-kept c.args.most all c.args.finding c.args.self.now _ reports within most few
          w.in_ok-push.ensures.items c.saturating_add.result (c.saturating_add.ensures ∙ next) refl)
      | else-count-most w ↦
          let many : c.args.most ≤ slice_index c.args.self.now.counts (number_of c.args.finding.rule) =
          subst (λ i. c.args.most ≤ get_or c.args.self.now.counts i 0) at w.if-count-most.false in
          rw (w.self-is, at)
          (Reports-counted c.args.most all c.args.finding c.args.self.now _ reports within most many
          refl c.saturating_add.result (c.saturating_add.ensures ∙ next) refl)
    ]
