use Rattle.std.proofs.Common.{◌≡◌, ◌++◌, map, take}
use Rattle.sourcemap_check_print.specs.declared.entries.Entry.TheVariants.{Doubtful}
use Rattle.sourcemap_check_print.proofs.entries.push_suspects.Given as goal

abbrev pub invariant-loop-suspect : goal.invariant-loop-suspect
invariant-loop-suspect l =
    l.entries.items ≡ l.initial.entries.items ++ map Doubtful (take l.suspect-index l.suspects)
