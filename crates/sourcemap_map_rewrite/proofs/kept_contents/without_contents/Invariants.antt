use Rattle.std.proofs.Common.{◌≡◌, None, replicate}
use Rattle.sourcemap_map_rewrite.proofs.kept_contents.without_contents.Given as goal

abbrev pub invariant-loop : goal.invariant-loop
invariant-loop l = l.list.items ≡ replicate l.counter None
