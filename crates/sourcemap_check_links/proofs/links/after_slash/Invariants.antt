use Rattle.std.proofs.Common.{◌≡◌, ℕ, ◌<◌, ◌≤◌, ◌==◌, false, get_or, length}
use Rattle.sourcemap_check_links.proofs.links.after_slash.Given as goal

abbrev pub invariant-loop-start : goal.invariant-loop-start
invariant-loop-start l = record {
  within : l.start ≤ length l.path;
  after : (k : ℕ) → l.start ≤ k → k < length l.path → (get_or l.path k 0 == 47) ≡ false;
}

abbrev pub decreases-loop-start : goal.decreases-loop-start
decreases-loop-start l = l.start
