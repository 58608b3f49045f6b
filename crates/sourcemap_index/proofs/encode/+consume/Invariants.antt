use Rattle.std.proofs.Common.{◌+◌, ◌*◌, ◌≤◌, ◌++◌, List, map}
use Rattle.std.specs.Vec.Iter.{into_iter_items}
use Rattle.sourcemap_records.specs.Jsontypes.{Section, section}
use Rattle.sourcemap_index_model.specs.MapTree.{index_tree, sections_from}
use Rattle.sourcemap_index.specs.Family.{map_tree, index_value, section_value}
use Rattle.sourcemap_index.proofs.EncodeLemmas.{ArePairs}
use Rattle.sourcemap_index.proofs.FlattenLemmas.{section_indexes}
use Rattle.sourcemap_index.proofs.LookupLemmas.{indexes, indexes_in}
use Rattle.sourcemap_index.proofs.encode.+consume.Given as goal

abbrev pub decreases-map_into_record : goal.decreases-map_into_record
decreases-map_into_record l = 4 * indexes (map_tree l.map) + 3

abbrev pub decreases-index_into_record : goal.decreases-index_into_record
decreases-index_into_record l = 4 * indexes (index_tree (index_value l.index)) + 2

abbrev pub decreases-sections_into_records : goal.decreases-sections_into_records
decreases-sections_into_records l = 4 * indexes_in (sections_from (map section_value l.sections.items)) + 5

abbrev pub decreases-section_into_record : goal.decreases-section_into_record
decreases-section_into_record l = 4 * section_indexes (section_value l.part) + 4

-- let `rs` be the records of the remaining sections. Then the records made so far, followed by `rs`, are the records of
-- all sections. The remaining sections contain at most as many index maps as all sections (`indexes_in`)
abbrev pub invariant-sections_into_records-loop-part : goal.invariant-sections_into_records-loop-part
invariant-sections_into_records-loop-part l = record {
  pairs : (rs : List Section) → ArePairs (map section_value (into_iter_items l.part-iterator)) rs
      → ArePairs (map section_value l.fn.sections.items) (map section l.records.items ++ rs);
  depth : indexes_in (sections_from (map section_value (into_iter_items l.part-iterator)))
      ≤ indexes_in (sections_from (map section_value l.fn.sections.items));
}
