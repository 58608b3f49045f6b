use Rattle.std.proofs.Common.{◌≡◌, ◌≤◌, ℕ, slice_get}
use Rattle.sourcemap_c.specs.Getters.{AreFrom}
use Rattle.sourcemap_c.specs.Offsets.{or_none}
use Rattle.sourcemap_c.proofs.offsets.put_numbers.Given as goal

abbrev pub invariant-loop-i : goal.invariant-loop-i
invariant-loop-i l = record {
  each : AreFrom or_none l.first l.lines l.offsets l.i;
  rest : (k : ℕ) → l.i ≤ k → slice_get l.offsets k ≡ slice_get l.initial.offsets k;
}
