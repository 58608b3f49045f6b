-- Nothing is found exactly if the map is valid.
use Rattle.std.proofs.Common.{◌∙◌, ◌==◌, ap, sym, subst}
use Rattle.std.specs.Option.{option_copied}
use Rattle.sourcemap_check_print.specs.Findings.{AreShown, HasVerdict}
use Rattle.sourcemap_check_print.proofs.FindingsLemmas.{none_found, verdict_holds}
use Rattle.sourcemap_check_print.proofs.findings.check_findings.Goals as goal

pub returns-clause-findings : goal.returns-clause-findings
returns-clause-findings c =
    let findings = c.in_ok-checked.ensures.reports in
    let kept = c.in_ok-checked.checked.report.findings in
    let is = none_found c.args.most findings.0 kept.items c.is_empty-is_valid.result c.requires findings.2.findings
    (c.is_empty-is_valid.ensures ∙ ap (λ n. n == 0) kept.ok.0) in
    record {
      all = findings.0;
      report = c.in_ok-checked.checked.report;
      found = c.in_ok-found.found;
      findings = findings.1;
      reports = findings.2;
      looks_wrong = subst
          (λ b. AreShown c.args.most b c.args.bytes.now (option_copied c.args.generated) (option_copied c.args.name)
          (option_copied c.args.files) c.in_ok-found.found) is c.in_ok-found.ensures.shown;
      places = c.in_ok-checked.ensures.places;
      entries_are = rw c.as_slice.ensures.value at c.in_ok-entries.ensures;
      invalid = c.total.ensures;
      suspicious = c.count_of.ensures;
    }

pub returns-clause-verdict : goal.returns-clause-verdict
returns-clause-verdict c =
    let findings = c.in_ok-checked.ensures.reports in
    let kept = c.in_ok-checked.checked.report.findings in
    let is = none_found c.args.most findings.0 kept.items c.is_empty-is_valid.result c.requires findings.2.findings
    (c.is_empty-is_valid.ensures ∙ ap (λ n. n == 0) kept.ok.0) in
    let counted = rw c.count_of.ensures at c.verdict_of-verdict.ensures in
    subst
    (λ v. HasVerdict c.args.most v c.args.bytes.now (option_copied c.args.generated) (option_copied c.args.name)
    (option_copied c.args.files))
    (sym counted)
    (verdict_holds c.args.most findings.0 c.args.bytes.now (option_copied c.args.generated) (option_copied c.args.name)
    (option_copied c.args.files) c.in_ok-found.found (c.validity_is_decided.ensures.valid c.args.bytes.now findings.0 findings.1)
    c.is_empty-is_valid.result is c.in_ok-found.ensures.shown)
