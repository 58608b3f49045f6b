use Rattle.std.proofs.Common.{List, ◌++◌, map, take}
use Rattle.std.specs.Prelude.{filter}
use Rattle.serde_json.specs.View.{view}
use Rattle.sourcemap_check_report.specs.declared.report.Finding.{Finding}
use Rattle.sourcemap_check_report.specs.declared.rules.Rule.TheVariants.{Map}
use Rattle.sourcemap_check_report.specs.declared.rules.TheConstants.{MAP_RULES}
use Rattle.sourcemap_check_report.specs.Report.{Reports}
use Rattle.sourcemap_check_keys.specs.MapRules.{breaks}
use Rattle.sourcemap_check.specs.Findings.{at}
use Rattle.sourcemap_check.proofs.keys.add_keys.Given as goal

abbrev pub invariant-loop-rule : goal.invariant-loop-rule
invariant-loop-rule l = (all : List Finding) → Reports l.most all l.initial.report
    → Reports l.most (all ++ map (λ rule. at l.own 0 (Map rule))
    (filter (λ rule. breaks rule (view l.map)) (take l.rule-index MAP_RULES))) l.report
