-- Maps of any kind as contracts see them: the meaning of a position, and which maps are in order or well-formed.
pub use Rattle.sourcemap_index_model.specs.MapTree.{LeafMap, regular, hermes, held, IndexParts, MapTree, leaf, index}
pub use Rattle.sourcemap_index_model.specs.MapTree.{MapSections, no_sections, hollow, filled, offset_of, MapSection}
pub use Rattle.sourcemap_index_model.specs.MapTree.{section_offset, section_list, section_with, sections_from}
pub use Rattle.sourcemap_index_model.specs.MapTree.{IndexValue, index_tree, AtEachLevel, InEachSection}
pub use Rattle.sourcemap_index_model.specs.Meaning.{relative_position, closest_answer, lookup, lookups, meaning}
pub use Rattle.sourcemap_index_model.specs.Meaning.{MeansTheSame}
pub use Rattle.sourcemap_index_model.specs.WellFormed.{AreSectionsInOrder, IsInOrder, AreFewSections}
pub use Rattle.sourcemap_index_model.specs.WellFormed.{AreWellFormedSections, IsWellFormedLeaf, IsWellFormed}
pub use Rattle.sourcemap_index_model.specs.WellFormed.{HasTokensInOrder}
