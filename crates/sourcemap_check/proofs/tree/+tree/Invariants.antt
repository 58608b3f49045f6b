use Rattle.std.proofs.Common.{◌+◌, ◌*◌, List, drop}
use Rattle.serde_json.specs.Data.{depth, items_depth}
use Rattle.serde_json.specs.View.{view, items_view}
use Rattle.sourcemap_check_report.specs.declared.report.Finding.{Finding}
use Rattle.sourcemap_check_report.specs.Report.{Reports}
use Rattle.sourcemap_check.specs.Trees.{sections_from}
use Rattle.sourcemap_check.proofs.LoopLemmas.{SectionsSoFar}
use Rattle.sourcemap_check.proofs.tree.+tree.Given as goal

abbrev pub decreases-check_map : goal.decreases-check_map
decreases-check_map l = 3 * depth (view l.map.now)

abbrev pub decreases-check_sections : goal.decreases-check_sections
decreases-check_sections l = 3 * items_depth (items_view l.sections.now) + 2

abbrev pub decreases-check_inner : goal.decreases-check_inner
decreases-check_inner l = 3 * depth (view l.section.now) + 1

abbrev pub invariant-check_sections-loop-index : goal.invariant-check_sections-loop-index
invariant-check_sections-loop-index l = (all : List Finding) → Reports l.most all l.initial.checked.report
    → SectionsSoFar l.most all l.own l.initial.checked (sections_from (items_view l.sections)) l.index l.previous
    (sections_from (items_view (drop l.index l.sections))) l.checked l.last
