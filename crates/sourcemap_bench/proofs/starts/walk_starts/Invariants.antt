use Rattle.std.proofs.Common.{◌≡◌, vec_len}
use Rattle.sourcemap_bench.proofs.starts.walk_starts.Given as goal

abbrev pub invariant-loop-walk : goal.invariant-loop-walk
invariant-loop-walk l = vec_len l.starts ≡ l.walk
