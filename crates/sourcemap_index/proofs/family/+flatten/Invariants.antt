use Rattle.std.proofs.Common.{◌+◌, ◌*◌, map, drop, take}
use Rattle.std.specs.List.{AllByRecursion}
use Rattle.sourcemap_index_model.specs.MapTree.{index_tree}
use Rattle.sourcemap_index.specs.Family.{map_tree, index_value, section_value}
use Rattle.sourcemap_index.specs.Flatten.{IsSectionInOrder}
use Rattle.sourcemap_index.proofs.LookupLemmas.{indexes}
use Rattle.sourcemap_index.proofs.FlattenLemmas.{SoFar, section_indexes}
use Rattle.sourcemap_index.proofs.family.+flatten.Given as goal

abbrev pub decreases-DecodedMap::gather : goal.decreases-DecodedMap::gather
decreases-DecodedMap::gather l = 3 * indexes (map_tree l.self.now) + 1

abbrev pub decreases-SourceMapSection::gather : goal.decreases-SourceMapSection::gather
decreases-SourceMapSection::gather l = 3 * section_indexes (section_value l.self.now) + 2

abbrev pub decreases-SourceMapIndex::gather_by_level : goal.decreases-SourceMapIndex::gather_by_level
decreases-SourceMapIndex::gather_by_level l = 3 * indexes (index_tree (index_value l.self.now))

abbrev pub invariant-SourceMapIndex::gather_by_level-loop-section :
    goal.invariant-SourceMapIndex::gather_by_level-loop-section
invariant-SourceMapIndex::gather_by_level-loop-section l = record {
  so_far : SoFar (map section_value l.section-items) (drop l.section-index (map section_value l.section-items))
      l.gathering;
  in_order : AllByRecursion IsSectionInOrder (map section_value (take l.section-index l.section-items));
}
