use Rattle.std.proofs.Common.{◌≡◌, ◌-◌, length, Some}
use Rattle.sourcemap_source_views.specs.Columns.{IsOffset}
use Rattle.sourcemap_map_regular.specs.Map.{MapValue}
use Rattle.sourcemap_check_texts.specs.Sources.{Files, line_of}
use Rattle.sourcemap_check_texts.specs.Checkpoints.{AreCheckpoints}
use Rattle.sourcemap_check_texts.proofs.checkpoints.add_line.Given as goal

abbrev pub invariant-loop-at : goal.invariant-loop-at
invariant-loop-at l = record {
  from : IsOffset l.line l.from.offset l.from.units;
  are : (m : MapValue) (files : Files) → AreCheckpoints m files l.fn.found.items
      → line_of m files l.source l.number ≡ Some l.line → AreCheckpoints m files l.found.items;
}

abbrev pub decreases-loop-at : goal.decreases-loop-at
decreases-loop-at l = length l.line - l.from.units
