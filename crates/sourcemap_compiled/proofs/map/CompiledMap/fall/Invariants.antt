use Rattle.std.proofs.Common.{◌≡◌, ◌<◌, ◌-◌}
use Rattle.sourcemap_compiled.specs.Lookup.{position_of}
use Rattle.sourcemap_compiled.specs.Soundness.{AreRising}
use Rattle.sourcemap_compiled.proofs.map.CompiledMap.fall.Given as goal

abbrev pub invariant-loop-index : goal.invariant-loop-index
invariant-loop-index l = record {
  none : l.index ≡ 0 → l.before ≡ 0;
  last : 0 < l.index → l.before ≡ position_of l.self.bytes.now (l.index - 1);
  rising : AreRising l.self.bytes.now l.index;
}
