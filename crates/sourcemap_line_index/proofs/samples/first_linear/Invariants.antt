use Rattle.std.proofs.Common.{◌-◌, ◌≡◌, ◌≤◌, ◌+◌, min}
use Rattle.sourcemap_tokens.specs.declared.tokens.RawToken.{RawToken}
use Rattle.sourcemap_line_index.specs.LineIndex.{col_at}
use Rattle.sourcemap_line_index.proofs.SamplesLemmas.{IsPassed}
use Rattle.sourcemap_line_index.proofs.samples.first_linear.Given as goal

abbrev pub invariant-loop-at : goal.invariant-loop-at
invariant-loop-at g l = record {
  at_least : l.first ≤ l.index;
  within : l.index ≤ l.at;
  passed : (d : RawToken) → IsPassed (col_at l.tokens d) (g.P.Probe.position l.probe).1 l.first l.index l.at;
  kept : g.P.Probe.position l.probe ≡ g.P.Probe.position l.initial.probe;
  counted : g.P.Probe.comparisons l.probe ≤ g.P.Probe.comparisons l.initial.probe + (l.at - l.first);
  raised : min (g.P.Probe.comparisons l.initial.probe) 4294967295 ≤ g.P.Probe.comparisons l.probe;
}
