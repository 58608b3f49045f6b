use Rattle.std.proofs.Common.{◌≡◌, ◌++◌, take}
use Rattle.sourcemap_check_suspicious.specs.Suspects.{token_suspects}
use Rattle.sourcemap_check_suspicious.proofs.adding.push_tokens.Given as goal

abbrev pub invariant-loop-index : goal.invariant-loop-index
invariant-loop-index l =
    l.first.items ≡ l.initial.first.items ++ token_suspects l.suspicion l.map (take l.index-index l.indexes)
