use Rattle.std.proofs.Common.{Some, ◌∙◌, ap, sym}
use Rattle.sourcemap_index.proofs.FamilyLemmas.{index_tree-of}
use Rattle.sourcemap_index.specs.Family.{map_tree, index_value}
use Rattle.sourcemap_index_model.proofs.MapTreeLemmas.{section_list-from}
use Rattle.sourcemap_c.specs.Sections.{sections_in}
use Rattle.sourcemap_c.proofs.sections.index_of.Goals as goal

pub returns-in-Index : goal.returns-in-Index
returns-in-Index c =
    let index = c.in-Index.index in
    ap Some (sym (section_list-from (index_value index).sections))
    ∙ ap sections_in (sym (ap map_tree c.in-Index.is ∙ index_tree-of index))
