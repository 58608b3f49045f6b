use Rattle.std.proofs.Common.{◌<◌, ◌≤◌, length, arith}
use Rattle.std.proofs.lemmas.List.{get_or_default, take_all}
use Rattle.serde_json.specs.View.{view}
use Rattle.sourcemap_check_report.specs.declared.rules.Rule.TheVariants.{Map}
use Rattle.sourcemap_check_report.specs.declared.rules.TheConstants.{MAP_RULES}
use Rattle.sourcemap_check_keys.specs.MapRules.{breaks}
use Rattle.sourcemap_check.specs.Findings.{at}
use Rattle.sourcemap_check.proofs.LoopLemmas.{rule_by_rule, Reports-none}
use Rattle.sourcemap_check.proofs.keys.add_keys.Goals as goal

pub loop-rule-init : goal.loop-rule-init
loop-rule-init c = λ all reports. Reports-none _ all _ reports

pub loop-rule-preserved : goal.loop-rule-preserved
loop-rule-preserved c = λ all reports.
    let lt : c.loop-rule.rule-index < length MAP_RULES = omega arith in
    rule_by_rule (λ rule. breaks rule (view c.args.map.now)) (λ rule. at c.args.own 0 (Map rule)) _ all MAP_RULES
    c.loop-rule.rule-index _ c.breaks-is_broken.result _ lt
    (get_or_default MAP_RULES c.loop-rule.rule-index _ _ lt) c.breaks-is_broken.ensures
    (c.in_ok-push_if.ensures.added _ (c.loop-rule.invariant all reports))

pub returns-clause-added : goal.returns-clause-added
returns-clause-added c = λ all reports.
    let past : length MAP_RULES ≤ c.loop-rule.rule-index = omega arith in
    rw (take_all c.loop-rule.rule-index MAP_RULES past) at (c.loop-rule.invariant all reports)
