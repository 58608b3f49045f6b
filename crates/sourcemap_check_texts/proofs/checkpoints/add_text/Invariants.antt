use Rattle.std.proofs.Common.{◌≡◌, Some}
use Rattle.sourcemap_map_regular.specs.Map.{MapValue}
use Rattle.sourcemap_check_texts.specs.Sources.{Files, source_text}
use Rattle.sourcemap_check_texts.specs.Checkpoints.{AreCheckpoints}
use Rattle.sourcemap_check_texts.proofs.checkpoints.add_text.Given as goal

abbrev pub invariant-loop-number : goal.invariant-loop-number
invariant-loop-number l =
    (m : MapValue) (files : Files) → AreCheckpoints m files l.fn.found.items → source_text m files l.source ≡ Some l.text
    → AreCheckpoints m files l.found.items
