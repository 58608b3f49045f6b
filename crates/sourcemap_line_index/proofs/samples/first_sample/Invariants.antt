use Rattle.std.proofs.Common.{◌-◌, ◌≡◌, ℕ, ◌<◌, ◌≤◌, ◌+◌, ◌^◌, min, slice_index}
use Rattle.sourcemap_line_index.proofs.LineIndexLemmas.{IsWindow, Remains}
use Rattle.sourcemap_line_index.proofs.samples.first_sample.Given as goal

abbrev pub invariant-loop-left : goal.invariant-loop-left
invariant-loop-left g l = record {
  at_least : l.first ≤ l.sample;
  within : l.sample + l.left ≤ l.end;
  window : IsWindow (slice_index l.samples) (g.P.Probe.position l.probe).1 l.first l.sample l.left l.end;
  kept : g.P.Probe.position l.probe ≡ g.P.Probe.position l.initial.probe;
  remains : (d : ℕ) → l.end - l.first < 2 ^ d
      → Remains (g.P.Probe.comparisons l.initial.probe + d) (g.P.Probe.comparisons l.probe) l.left;
  raised : min (g.P.Probe.comparisons l.initial.probe) 4294967295 ≤ g.P.Probe.comparisons l.probe;
}

abbrev pub decreases-loop-left : goal.decreases-loop-left
decreases-loop-left g l = l.left
