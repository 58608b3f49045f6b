use Rattle.std.proofs.Common.{drop, map}
use Rattle.sourcemap_index_model.specs.Shift.{HaveRowsLeft}
use Rattle.sourcemap_index.specs.Family.{section_value}
use Rattle.sourcemap_index.proofs.rows.have_rows_left.Given as goal

abbrev pub invariant-loop-section : goal.invariant-loop-section
invariant-loop-section l =
    (HaveRowsLeft l.rows (map section_value l.sections)
    → HaveRowsLeft l.rows (map section_value (drop l.section-index l.sections)))
    × (HaveRowsLeft l.rows (map section_value (drop l.section-index l.sections))
    → HaveRowsLeft l.rows (map section_value l.sections))
