-- Equality of sections and of index maps, by all their parts.
use Rattle.std.specs.Prelude.{Bool}
use Rattle.std.specs.Option.{option_eq}
use Rattle.std.specs.Ordering.{on, eq_of_both}
use Rattle.std.specs.Cmp.{IsEquivalence}
use Rattle.std.specs.Cmp.Rules.{comparing}
use Rattle.std.specs.Cmp.Lexicographic.{pointwise}
use Rattle.std.proofs.Common.{rules}
use Rattle.sourcemap_index_model.specs.Equality.{same_parts, same_section_head, same_tree}
use Rattle.sourcemap_index_model.specs.MapTree.{MapSection, IndexValue}
use Rattle.sourcemap_index_model.proofs.EqualityLemmas.{same_tree_equiv}

abbrev pub same_section : MapSection → MapSection → Bool
same_section =
    eq_of_both
    (on (λ s. s.head) same_section_head)
    (on (λ s. s.map) (option_eq same_tree))

abbrev pub same_index : IndexValue → IndexValue → Bool
same_index =
    eq_of_both
    (on (λ i. i.parts) same_parts)
    (on (λ i. i.sections) (pointwise same_section))

pub same_section_equiv : IsEquivalence same_section
same_section_equiv = search (comparing, rules, same_tree_equiv) depth 16

pub same_index_equiv : IsEquivalence same_index
same_index_equiv = search (comparing, rules, same_section_equiv) depth 16
