use Rattle.sourcemap_compiled.specs.Soundness.{AreReadable}
use Rattle.sourcemap_compiled.proofs.map.CompiledMap.read_texts.Given as goal

abbrev pub invariant-loop-text : goal.invariant-loop-text
invariant-loop-text l = AreReadable l.self.bytes.now l.text
