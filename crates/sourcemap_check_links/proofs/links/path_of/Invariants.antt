use Rattle.std.proofs.Common.{◌≡◌, ℕ, ◌<◌, ◌==◌, false, get_or}
use Rattle.std.specs.Prelude.{◌||◌}
use Rattle.sourcemap_check_links.proofs.links.path_of.Given as goal

abbrev pub invariant-loop-end : goal.invariant-loop-end
invariant-loop-end l = (k : ℕ) → k < l.end → (get_or l.url k 0 == 63 || get_or l.url k 0 == 35) ≡ false
