-- Two index maps are compared by their parts (`IndexParts`) and section by section.
use Rattle.std.proofs.Common.{◌∙◌, sym}
use Rattle.sourcemap_index_model.specs.Equality.{same_tree}
use Rattle.sourcemap_index.specs.Family.{index_value, map_tree}
use Rattle.sourcemap_index.proofs.EqualityLemmas.{index_same}
use Rattle.sourcemap_index.proofs.FamilyLemmas.{index_tree-of}
use Rattle.sourcemap_index.proofs.equality.+equality.Goals as goal

pub are_same_maps-returns-in-Index-Index : goal.are_same_maps-returns-in-Index-Index
are_same_maps-returns-in-Index-Index t c =
    let i = c.in-Index-Index.a in
    let j = c.in-Index-Index.b in
    c.are_same_indexes.ensures
    ∙ index_same (index_value i) (index_value j)
    ∙ (λ k. same_tree (sym (index_tree-of i) k) (sym (index_tree-of j) k))
    ∙ (λ k. same_tree (map_tree (sym c.in-Index-Index.is-0 k)) (map_tree (sym c.in-Index-Index.is-1 k)))
