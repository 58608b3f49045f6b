use Rattle.std.proofs.Common.{◌≡◌, ◌++◌, map, take}
use Rattle.sourcemap_c_check.specs.Report.{finding_value, shown}
use Rattle.sourcemap_c_check.proofs.checks.push_findings.Given as goal

abbrev pub invariant-loop-entry : goal.invariant-loop-entry
invariant-loop-entry l =
    map finding_value l.made.items
    ≡ map finding_value l.initial.made.items ++ map (shown l.maps) (take l.entry-index l.entries)
