use Rattle.std.proofs.Common.{◌≡◌, ◌++◌, map, take}
use Rattle.sourcemap_check_print.specs.declared.entries.Entry.TheVariants.{Invalid}
use Rattle.sourcemap_check_print.proofs.entries.push_findings.Given as goal

abbrev pub invariant-loop-finding : goal.invariant-loop-finding
invariant-loop-finding l =
    l.entries.items ≡ l.initial.entries.items ++ map Invalid (take l.finding-index l.findings)
