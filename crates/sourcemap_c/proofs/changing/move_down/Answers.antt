use Rattle.std.proofs.Common.{◌∙◌, ap, refl}
use Rattle.sourcemap_index.proofs.FamilyLemmas.{index_tree-of}
use Rattle.sourcemap_index.specs.Family.{index_value, map_tree}
use Rattle.sourcemap_index_model.specs.MapTree.{index_tree}
use Rattle.sourcemap_c.proofs.changing.move_down.Goals as goal

pub returns-then-adjust_sections_offset_rows : goal.returns-then-adjust_sections_offset_rows
returns-then-adjust_sections_offset_rows c =
    let old = c.in-Index.index in
    let new = c.adjust_sections_offset_rows.new.self in
    let moved = c.if-adjust_sections_offset_rows.ensures in (
      index_value old,
      ap map_tree c.in-Index.is ∙ index_tree-of old,
      moved.possible.0 refl,
      index_tree-of new ∙ ap index_tree moved.value,
    )
