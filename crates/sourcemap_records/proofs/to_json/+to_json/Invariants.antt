use Rattle.std.proofs.Common.{◌≡◌, map, ◌++◌}
use Rattle.std.specs.Vec.Iter.{into_iter_items}
use Rattle.std.specs.List.{AllByRecursion}
use Rattle.serde_json.specs.View.{view}
use Rattle.sourcemap_records.specs.Jsontypes.{IsSectionInRange, written_one, section}
use Rattle.sourcemap_records.proofs.to_json.+to_json.Given as goal

-- the JSON values so far, followed by the values of the remaining sections, are the values of all sections. If the
-- remaining sections are in range, then all sections are in range
abbrev pub invariant-write_section_list-loop-section : goal.invariant-write_section_list-loop-section
invariant-write_section_list-loop-section l =
    (map view l.items.items ++ map written_one (map section (into_iter_items l.section-iterator))
    ≡ map written_one (map section l.fn.sections.items))
    × (AllByRecursion IsSectionInRange (map section (into_iter_items l.section-iterator))
    → AllByRecursion IsSectionInRange (map section l.fn.sections.items))
