use Rattle.std.proofs.Common.{List, ℕ, ◌++◌, ◌∷◌, [], take}
use Rattle.sourcemap_check_report.specs.declared.report.Finding.{Finding}
use Rattle.sourcemap_check_report.specs.declared.rules.TheConstants.{SEGMENT_RULES}
use Rattle.sourcemap_check_report.specs.Report.{Reports}
use Rattle.sourcemap_check_segments.specs.Steps.{IsSegment, AreSums, counts_of}
use Rattle.sourcemap_check_segments.proofs.FindingLemmas.{found}
use Rattle.sourcemap_check_segments.proofs.check.add_segment.Given as goal

abbrev pub invariant-loop-rule : goal.invariant-loop-rule
invariant-loop-rule l = (all : List Finding) (before here : List (List ℕ)) (bytes : List ℕ)
    → AreSums (before ++ (here ++ bytes ∷ [])) (here ++ bytes ∷ []) l.sums
    → IsSegment bytes l.segment → Reports l.most all l.initial.report
    → Reports l.most (all ++ found (counts_of l.limits) l.place.map l.place.line l.place.index before here bytes
    (take l.rule-index SEGMENT_RULES)) l.report
