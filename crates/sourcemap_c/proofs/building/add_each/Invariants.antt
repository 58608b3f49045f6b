use Rattle.std.proofs.Common.{◌≡◌}
use Rattle.sourcemap_c.specs.Building.{with_tokens}
use Rattle.sourcemap_c.proofs.building.add_each.Given as goal

abbrev pub invariant-loop-token : goal.invariant-loop-token
invariant-loop-token l = record {
  count : l.count ≡ l.token-index;
  added : l.builder ≡ with_tokens l.fn.builder l.tokens l.count;
}
