use Rattle.std.proofs.Common.{◌∙◌, ap, length, sym}
use Rattle.sourcemap_index.proofs.FamilyLemmas.{index_tree-of}
use Rattle.sourcemap_index.specs.Family.{map_tree, index_value}
use Rattle.sourcemap_index_model.proofs.MapTreeLemmas.{section_list-from}
use Rattle.sourcemap_c.specs.Getters.{counts_of, counts_of_sections}
use Rattle.sourcemap_c.proofs.getters.counts_of.Goals as goal

pub returns-in-Index : goal.returns-in-Index
returns-in-Index c =
    let index = c.in-Index.index in
    c.counts_of_index.ensures
    ∙ ap (λ ss. counts_of_sections (length ss)) (sym (section_list-from (index_value index).sections))
    ∙ ap counts_of (sym (ap map_tree c.in-Index.is ∙ index_tree-of index))
