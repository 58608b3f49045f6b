use Rattle.std.proofs.Common.{◌≡◌, ◌++◌, map, take}
use Rattle.sourcemap_check_print.specs.declared.entries.Entry.TheVariants.{Off}
use Rattle.sourcemap_check_print.proofs.entries.push_shifts.Given as goal

abbrev pub invariant-loop-shifted : goal.invariant-loop-shifted
invariant-loop-shifted l =
    l.entries.items ≡ l.initial.entries.items ++ map Off (take l.shifted-index l.shifts)
