use Rattle.std.proofs.Common.{◌≡◌, ◌≤◌, ℕ, slice_get}
use Rattle.sourcemap_c_handles.specs.Layout.{map_token}
use Rattle.sourcemap_c.specs.Getters.{AreFrom}
use Rattle.sourcemap_c.proofs.getters.put_raw.Given as goal

abbrev pub invariant-loop-i : goal.invariant-loop-i
invariant-loop-i l = record {
  each : AreFrom map_token l.first l.raw l.tokens l.i;
  rest : (k : ℕ) → l.i ≤ k → slice_get l.tokens k ≡ slice_get l.initial.tokens k;
}
