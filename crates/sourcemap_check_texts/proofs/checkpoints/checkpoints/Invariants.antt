use Rattle.std.specs.Option.{option_copied}
use Rattle.sourcemap_check_texts.specs.Checkpoints.{AreCheckpoints}
use Rattle.sourcemap_check_texts.proofs.checkpoints.checkpoints.Given as goal

abbrev pub invariant-loop-source : goal.invariant-loop-source
invariant-loop-source l = AreCheckpoints l.map (option_copied l.files) l.found.items
