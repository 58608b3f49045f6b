-- Nothing is invalid exactly if the map is valid.
use Rattle.std.proofs.Common.{◌∙◌}
use Rattle.sourcemap_check.specs.Validity.{IsValid}
use Rattle.sourcemap_c_check.proofs.CountLemmas.{valid_if_0}
use Rattle.sourcemap_c_check.proofs.checks.report_beside.Goals as goal

pub returns : goal.returns
returns c =
    let shows = c.in_ok-found.ensures.findings in
    let made = c.in_ok-report.ensures in
    record {
      found = c.in_ok-found.found;
      shows = shows;
      reported = made;
      valid = valid_if_0 c.args.most shows.all shows.report c.in_ok-report.report.counts.invalid
          (IsValid c.args.bytes.now) shows.reports (made.invalid ∙ shows.invalid)
          (c.validity_is_decided.ensures.valid c.args.bytes.now shows.all shows.findings);
    }
