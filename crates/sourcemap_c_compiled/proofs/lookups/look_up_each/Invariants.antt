use Rattle.std.proofs.Common.{◌≡◌, ◌≤◌, ℕ, slice_get}
use Rattle.sourcemap_compiled.specs.Stored.{bytes_of}
use Rattle.sourcemap_c_compiled.specs.Lookups.{AreAnswered}
use Rattle.sourcemap_c_compiled.proofs.lookups.look_up_each.Given as goal

abbrev pub invariant-loop-i : goal.invariant-loop-i
invariant-loop-i l = record {
  each : AreAnswered (bytes_of l.map) l.positions l.found l.i;
  rest : (k : ℕ) → l.i ≤ k → slice_get l.found k ≡ slice_get l.initial.found k;
}
