use Rattle.std.proofs.Common.{◌≡◌, ℕ, ◌<◌, ◌≤◌, ◌+◌, ◌^◌, length, min, slice_index}
use Rattle.sourcemap_line_index.proofs.LineIndexLemmas.{IsWindow, Remains}
use Rattle.sourcemap_line_index.proofs.line_index.first_at_line.Given as goal

abbrev pub invariant-loop-left : goal.invariant-loop-left
invariant-loop-left g l = record {
  within : l.row + l.left ≤ length l.lines;
  window : IsWindow (slice_index l.lines) (g.P.Probe.position l.probe).0 0 l.row l.left (length l.lines);
  kept : g.P.Probe.position l.probe ≡ g.P.Probe.position l.initial.probe;
  remains : (d : ℕ) → length l.lines < 2 ^ d
      → Remains (g.P.Probe.comparisons l.initial.probe + d) (g.P.Probe.comparisons l.probe) l.left;
  raised : min (g.P.Probe.comparisons l.initial.probe) 4294967295 ≤ g.P.Probe.comparisons l.probe;
  at_least_one : l.left < length l.lines
      → min (g.P.Probe.comparisons l.initial.probe + 1) 4294967295 ≤ g.P.Probe.comparisons l.probe;
}

abbrev pub decreases-loop-left : goal.decreases-loop-left
decreases-loop-left g l = l.left
