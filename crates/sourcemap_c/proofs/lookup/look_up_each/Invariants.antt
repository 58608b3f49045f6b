use Rattle.std.proofs.Common.{◌≡◌, ◌≤◌, ℕ, slice_get}
use Rattle.sourcemap_index.specs.Family.{map_tree}
use Rattle.sourcemap_index_model.specs.WellFormed.{IsInOrder}
use Rattle.sourcemap_c.specs.Lookup.{AreAnswered}
use Rattle.sourcemap_c.proofs.lookup.look_up_each.Given as goal

abbrev pub invariant-loop-i : goal.invariant-loop-i
invariant-loop-i l = record {
  each : IsInOrder (map_tree l.map) → AreAnswered (map_tree l.map) l.positions l.found l.i;
  rest : (k : ℕ) → l.i ≤ k → slice_get l.found k ≡ slice_get l.initial.found k;
}
