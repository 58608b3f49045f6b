use Rattle.std.proofs.Common.{◌-◌, ◌≡◌, ℕ, ◌<◌, ◌≤◌, ◌+◌, ◌^◌, min}
use Rattle.sourcemap_tokens.specs.declared.tokens.RawToken.{RawToken}
use Rattle.sourcemap_line_index.specs.LineIndex.{col_at}
use Rattle.sourcemap_line_index.proofs.LineIndexLemmas.{IsWindow, Remains}
use Rattle.sourcemap_line_index.proofs.samples.first_at_column.Given as goal

abbrev pub invariant-loop-left : goal.invariant-loop-left
invariant-loop-left g l = record {
  at_least : l.first ≤ l.index;
  within : l.index + l.left ≤ l.end;
  window : (d : RawToken) → IsWindow (col_at l.tokens d) (g.P.Probe.position l.probe).1 l.first l.index l.left l.end;
  kept : g.P.Probe.position l.probe ≡ g.P.Probe.position l.initial.probe;
  remains : (d : ℕ) → l.end - l.first < 2 ^ d
      → Remains (g.P.Probe.comparisons l.initial.probe + d) (g.P.Probe.comparisons l.probe) l.left;
  raised : min (g.P.Probe.comparisons l.initial.probe) 4294967295 ≤ g.P.Probe.comparisons l.probe;
}

abbrev pub decreases-loop-left : goal.decreases-loop-left
decreases-loop-left g l = l.left
