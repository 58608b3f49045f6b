use Rattle.std.proofs.Common.{◌≡◌, ◌++◌, drop, map, take}
use Rattle.sourcemap_index.specs.Family.{section_value}
use Rattle.sourcemap_index.proofs.RowsLemmas.{moved}
use Rattle.sourcemap_index.proofs.rows.move_down.Given as goal

abbrev pub invariant-loop-section : goal.invariant-loop-section
invariant-loop-section l =
    map section_value l.sections
    ≡ map (moved l.rows) (take l.section-index (map section_value l.fn.sections))
    ++ drop l.section-index (map section_value l.fn.sections)
