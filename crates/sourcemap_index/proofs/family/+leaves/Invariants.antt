use Rattle.std.proofs.Common.{◌+◌, ◌*◌, map, take}
use Rattle.std.specs.List.{AllByRecursion}
use Rattle.sourcemap_index_model.specs.MapTree.{index_tree}
use Rattle.sourcemap_index.specs.Family.{map_tree, index_value, section_value}
use Rattle.sourcemap_index.specs.Leaves.{HasComplete}
use Rattle.sourcemap_index.proofs.LookupLemmas.{indexes}
use Rattle.sourcemap_index.proofs.FlattenLemmas.{section_indexes}
use Rattle.sourcemap_index.proofs.LeavesLemmas.{AddsSections}
use Rattle.sourcemap_index.proofs.family.+leaves.Given as goal

abbrev pub decreases-DecodedMap::gather_leaves : goal.decreases-DecodedMap::gather_leaves
decreases-DecodedMap::gather_leaves l = 3 * indexes (map_tree l.self.now) + 1

abbrev pub decreases-SourceMapSection::gather_leaves : goal.decreases-SourceMapSection::gather_leaves
decreases-SourceMapSection::gather_leaves l = 3 * section_indexes (section_value l.self.now) + 2

abbrev pub decreases-SourceMapIndex::gather_leaves : goal.decreases-SourceMapIndex::gather_leaves
decreases-SourceMapIndex::gather_leaves l = 3 * indexes (index_tree (index_value l.self.now))

abbrev pub invariant-SourceMapIndex::gather_leaves-loop-section :
    goal.invariant-SourceMapIndex::gather_leaves-loop-section
invariant-SourceMapIndex::gather_leaves-loop-section l = record {
  so_far : AddsSections (l.line, l.col) (map section_value (take l.section-index l.section-items)) l.fn.gathering
      l.gathering;
  complete : AllByRecursion (λ s. HasComplete s.map) (map section_value (take l.section-index l.section-items));
}
