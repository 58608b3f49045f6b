use Rattle.std.proofs.Common.{List, ◌++◌, map, take}
use Rattle.std.specs.Prelude.{filter}
use Rattle.serde_json.specs.View.{view}
use Rattle.sourcemap_check_report.specs.declared.report.Finding.{Finding}
use Rattle.sourcemap_check_report.specs.declared.rules.Rule.TheVariants.{Section}
use Rattle.sourcemap_check_report.specs.declared.rules.TheConstants.{SECTION_RULES}
use Rattle.sourcemap_check_report.specs.Report.{Reports}
use Rattle.sourcemap_check_keys.specs.SectionRules.{breaks}
use Rattle.sourcemap_check.specs.Findings.{at}
use Rattle.sourcemap_check.proofs.sections.add_section_keys.Given as goal

abbrev pub invariant-loop-rule : goal.invariant-loop-rule
invariant-loop-rule l = (all : List Finding) → Reports l.most all l.initial.report
    → Reports l.most (all ++ map (λ rule. at l.place.map l.place.index (Section rule))
    (filter (λ rule. breaks rule (view l.section)) (take l.rule-index SECTION_RULES))) l.report
