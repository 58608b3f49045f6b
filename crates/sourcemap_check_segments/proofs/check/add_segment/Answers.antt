use Rattle.std.proofs.Common.{◌<◌, ◌≤◌, length, arith}
use Rattle.std.proofs.lemmas.List.{get_or_default, take_all}
use Rattle.sourcemap_check_report.specs.declared.rules.TheConstants.{SEGMENT_RULES}
use Rattle.sourcemap_check_segments.proofs.FindingLemmas.{Reports-rule, Reports-none}
use Rattle.sourcemap_check_segments.proofs.check.add_segment.Goals as goal

pub loop-rule-init : goal.loop-rule-init
loop-rule-init c = λ all before here bytes sums is reports. Reports-none _ all _ reports

pub loop-rule-preserved : goal.loop-rule-preserved
loop-rule-preserved c = λ all before here bytes sums is reports.
    let lt : c.loop-rule.rule-index < length SEGMENT_RULES = omega arith in
    Reports-rule _ _ _ _ _ all before here bytes SEGMENT_RULES c.loop-rule.rule-index _ c.breaks-is_broken.result _ lt
    (get_or_default SEGMENT_RULES c.loop-rule.rule-index _ _ lt) (c.breaks-is_broken.ensures _ _ bytes sums is)
    (c.in_ok-add_if.ensures.added _ (c.loop-rule.invariant all before here bytes sums is reports))

pub returns-clause-added : goal.returns-clause-added
returns-clause-added c = λ all before here bytes sums is reports.
    let past : length SEGMENT_RULES ≤ c.loop-rule.rule-index = omega arith in
    rw (take_all c.loop-rule.rule-index SEGMENT_RULES past) at (c.loop-rule.invariant all before here bytes sums is reports)
