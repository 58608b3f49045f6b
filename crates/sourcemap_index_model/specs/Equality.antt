-- Equality of maps of any kind, by all their parts.
use Rattle.std.specs.Prelude.{nat_eq, Bool, true, false, ◌&&◌}
use Rattle.std.specs.Option.{option_eq}
use Rattle.std.specs.Ordering.{on, eq_of_both}
use Rattle.std.specs.Cmp.Lexicographic.{pointwise}
use Rattle.sourcemap_records.specs.Jsontypes.{SectionHead}
use Rattle.sourcemap_map_parts.specs.TextLists.{same_text}
use Rattle.sourcemap_map_regular.specs.Equality.{same_map}
use Rattle.sourcemap_hermes.specs.Equality.{same_hermes}
use Rattle.sourcemap_index_model.specs.MapTree.{LeafMap, regular, hermes, IndexParts, MapTree, leaf, index, MapSections, no_sections, hollow, filled}

abbrev pub same_parts : IndexParts → IndexParts → Bool
same_parts =
    eq_of_both (eq_of_both (eq_of_both
    (on (λ parts. parts.file) (option_eq same_text))
    (on (λ parts. parts.debug_id) (option_eq same_text)))
    (on (λ parts. parts.x_facebook_offsets) (option_eq (pointwise (option_eq nat_eq)))))
    (on (λ parts. parts.x_metro_module_paths) (option_eq (pointwise same_text)))

abbrev pub same_section_head : SectionHead → SectionHead → Bool
same_section_head =
    eq_of_both (eq_of_both
    (on (λ head. head.line) nat_eq)
    (on (λ head. head.column) nat_eq))
    (on (λ head. head.url) (option_eq same_text))

abbrev pub same_leaf : LeafMap → LeafMap → Bool
same_leaf (regular a) (regular b) = same_map a b
same_leaf (hermes a) (hermes b) = same_hermes a b
same_leaf _ _ = false

abbrev mutual
  pub same_tree : MapTree → MapTree → Bool
  same_tree (leaf a) (leaf b) = same_leaf a b
  same_tree (index parts ss) (index parts' ss') = same_parts parts parts' && same_sections ss ss'
  same_tree _ _ = false

  pub same_sections : MapSections → MapSections → Bool
  same_sections no_sections no_sections = true
  same_sections (hollow head rest) (hollow head' rest') = same_section_head head head' && same_sections rest rest'
  same_sections (filled head t rest) (filled head' t' rest') =
      same_section_head head head' && (same_tree t t' && same_sections rest rest')
  same_sections _ _ = false
