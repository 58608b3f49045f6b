use Rattle.std.proofs.Common.{refl}
use Rattle.sourcemap_compiled.specs.declared.errors.CompiledMapError.TheVariants.{OutOfOrder}
use Rattle.sourcemap_compiled.proofs.SoundnessLemmas.{accepts, fault_or_sound, refuses}
use Rattle.sourcemap_compiled.proofs.map.CompiledMap.verify.Goals as goal

pub returns-in-Some-clause-accepted : goal.returns-in-Some-clause-accepted
returns-in-Some-clause-accepted c = (
  λ is. cc,
  λ sound. absurd (fault_or_sound c.args.self.now.bytes.now sound (OutOfOrder c.in-Some.index) c.in-Some.ensures.found),
)

pub returns-clause-accepted : goal.returns-clause-accepted
returns-clause-accepted c =
    accepts c.args.self.now.bytes.now (c.in_default.ensures.none refl) c.read_texts.result c.read_texts.ensures.ok
    c.read_texts.ensures.error

pub returns-clause-refused : goal.returns-clause-refused
returns-clause-refused c =
    refuses c.args.self.now.bytes.now (c.in_default.ensures.none refl) c.read_texts.result c.read_texts.ensures.error
