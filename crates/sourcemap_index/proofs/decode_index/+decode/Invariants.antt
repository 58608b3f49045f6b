use Rattle.std.proofs.Common.{◌+◌, ◌*◌, ◌≤◌, List, map, Result}
use Rattle.std.specs.Vec.Iter.{into_iter_items}
use Rattle.sourcemap_errors.specs.declared.errors.Error.{Error}
use Rattle.sourcemap_records.specs.Jsontypes.{tree, section, sections_from}
use Rattle.sourcemap_index_model.specs.Decode.{SectionsDecode}
use Rattle.sourcemap_index_model.specs.MapTree.{MapSection}
use Rattle.sourcemap_index.specs.Family.{section_value}
use Rattle.sourcemap_index.proofs.DecodeIndexLemmas.{prepend, sections_below, sections_among, sections_at}
use Rattle.sourcemap_index.proofs.decode_index.+decode.Given as goal

abbrev pub decreases-decode_record : goal.decreases-decode_record
decreases-decode_record l = 4 * sections_below (tree l.raw)

abbrev pub decreases-decode_parts : goal.decreases-decode_parts
decreases-decode_parts l = 4 * sections_among (sections_from (map section l.sections.items)) + 3

abbrev pub decreases-decode_sections : goal.decreases-decode_sections
decreases-decode_sections l = 4 * sections_among (sections_from (map section l.sections.items)) + 2

abbrev pub decreases-decode_section : goal.decreases-decode_section
decreases-decode_section l = 4 * sections_at (section l.part).map + 1

-- if the remaining sections decode to `a`, all sections decode to `a` with the decoded sections in front (`prepend`).
-- The count `sections_among` of the remaining sections is at most the count of all sections
abbrev pub invariant-decode_sections-loop-part : goal.invariant-decode_sections-loop-part
invariant-decode_sections-loop-part l = record {
  decoded : (a : Result (List MapSection) Error)
      → SectionsDecode (sections_from (map section (into_iter_items l.part-iterator))) a
      → SectionsDecode (sections_from (map section l.fn.sections.items))
      (prepend (map section_value l.decoded.items) a);
  depth : sections_among (sections_from (map section (into_iter_items l.part-iterator)))
      ≤ sections_among (sections_from (map section l.fn.sections.items));
}
