use Rattle.std.proofs.Common.{◌+◌, ◌*◌, ◌≤◌, ◌≡◌, Some, map, option_map}
use Rattle.std.specs.Vec.Iter.{into_iter_items}
use Rattle.serde_json.specs.Data.{depth, items_depth}
use Rattle.serde_json.specs.View.{view, items_view}
use Rattle.sourcemap_records.specs.Field.{with}
use Rattle.sourcemap_records.specs.Jsontypes.{sections_read, section}
use Rattle.sourcemap_records.proofs.FromJsonLemmas.{before}
use Rattle.sourcemap_records.proofs.DepthLemmas.{depth_in}
use Rattle.sourcemap_records.proofs.from_json.+from_json.Given as goal

abbrev pub decreases-read_map : goal.decreases-read_map
decreases-read_map l = 2 * depth (view l.value)

abbrev pub decreases-read_sections : goal.decreases-read_sections
decreases-read_sections l = 2 * depth_in (option_map view l.value) + 1

abbrev pub decreases-read_section_list : goal.decreases-read_section_list
decreases-read_section_list l = 2 * items_depth (items_view l.items.items) + 2

abbrev pub decreases-read_section : goal.decreases-read_section
decreases-read_section l = 2 * depth (view l.value) + 1

abbrev pub decreases-read_section_map : goal.decreases-read_section_map
decreases-read_section_map l = 2 * depth_in (option_map view l.value) + 1

-- the sections of all items are the sections so far, followed by the sections of the remaining items. The remaining
-- items are at most as deep as all items
abbrev pub invariant-read_section_list-loop-item : goal.invariant-read_section_list-loop-item
invariant-read_section_list-loop-item l = record {
  read : sections_read (items_view l.fn.items.items)
      ≡ with (sections_read (items_view (into_iter_items l.item-iterator)))
      (λ more. Some (before (map section l.sections.items) more));
  depth : items_depth (items_view (into_iter_items l.item-iterator)) ≤ items_depth (items_view l.fn.items.items);
}
