use Rattle.std.proofs.Common.{◌≡◌, ◌∙◌, [], Some, arith, rules, map, ap, sym, codes}
use Rattle.std.proofs.lemmas.List.{map-append, nil_from_length}
use Rattle.std.specs.Vec.Iter.{into_iter_items}
use Rattle.serde_json.specs.Data.{items_depth}
use Rattle.sourcemap_records.specs.Field.{with}
use Rattle.sourcemap_records.specs.Jsontypes.{sections_read, section}
use Rattle.serde_json.specs.View.{view, members_view, items_view}
use Rattle.sourcemap_records.proofs.FromJsonLemmas.{before, before-none, sections_read-item, map_split, section_split, depth_split}
use Rattle.sourcemap_records.proofs.from_json.+from_json.Goals as goal

pub read_section_list-read_section-requires : goal.read_section_list-read_section-requires
read_section_list-read_section-requires t c =
    let here = ap (λ vs. items_depth (items_view vs)) c.in-Some.ensures.steps.0 in
    (omega (arith, here, c.loop-item.invariant.depth), tt)

pub read_section_list-returns-in_err-read_section : goal.read_section_list-returns-in_err-read_section
read_section_list-returns-in_err-read_section t c =
    rw (c.loop-item.invariant.read, c.in-Some.ensures.steps.0) (search rules)

pub read_section_list-returns : goal.read_section_list-returns
read_section_list-returns t c =
    let empty : into_iter_items c.loop-item.item-iterator ≡ [] =
    nil_from_length (into_iter_items c.loop-item.item-iterator)
    (sym c.loop-item.item-iterator.rest.ok.0 ∙ c.in-None.ensures.steps.0) in
    c.loop-item.invariant.read
    ∙ ap (λ vs. with (sections_read (items_view vs))
    (λ more. Some (before (map section c.loop-item.sections.items) more))) empty
    ∙ ap Some (before-none (map section c.loop-item.sections.items))

pub read_section_list-loop-item-preserved : goal.read_section_list-loop-item-preserved
read_section_list-loop-item-preserved t c =
    let next = c.in-Some.ensures.steps.0 in
    let here = ap (λ vs. items_depth (items_view vs)) next in
    let done = map section c.loop-item.sections.items in
    let more = ap (map section) c.in_ok-push.ensures.items ∙ map-append section c.loop-item.sections.items _ in
    let rest = items_view (into_iter_items c.next.new.self) in
    record {
      read = c.loop-item.invariant.read
          ∙ ap (λ vs. with (sections_read (items_view vs)) (λ more. Some (before done more))) next
          ∙ sections_read-item done (section c.in_ok-read_section.field-0) (view c.in-Some.item) rest c.in_ok-read_section.ensures
          ∙ ap (λ ss. with (sections_read rest) (λ more. Some (before ss more))) (sym more);
      depth = omega (arith, here, c.loop-item.invariant.depth);
    }

pub read_map-read_sections-requires : goal.read_map-read_sections-requires
read_map-read_sections-requires t c = (
  omega (
    arith,
    depth_split c.args.value c.in-Object.members (codes "sections") c.remove_value-sections_value.result
        c.in-Object.is c.remove_value-sections_value.ensures.value,
  ),
  tt,
)

pub read_map-returns-in_err-sections-in-Object : goal.read_map-returns-in_err-sections-in-Object
read_map-returns-in_err-sections-in-Object t c =
    rw (map_split c.args.value c.in-Object.members (members_view c.remove_value-sections_value.new.members.entries) _
    c.in-Object.is c.remove_value-sections_value.ensures.value c.remove_value-sections_value.ensures.others)
    (search rules)

pub read_map-returns-in-Object : goal.read_map-returns-in-Object
read_map-returns-in-Object t c =
    rw (map_split c.args.value c.in-Object.members (members_view c.remove_value-sections_value.new.members.entries) _
    c.in-Object.is c.remove_value-sections_value.ensures.value c.remove_value-sections_value.ensures.others)
    (search rules)

pub read_section-read_section_map-requires : goal.read_section-read_section_map-requires
read_section-read_section_map-requires t c = (
  omega (
    arith,
    depth_split c.args.value c.in-Object.members (codes "map") c.remove_value-inner.result c.in-Object.is
        c.remove_value-inner.ensures.value,
  ),
  tt,
)

pub read_section-returns-in_err-map-in-Object : goal.read_section-returns-in_err-map-in-Object
read_section-returns-in_err-map-in-Object t c =
    rw (section_split c.args.value c.in-Object.members (members_view c.remove_value-inner.new.members.entries) _
    c.in-Object.is c.remove_value-inner.ensures.value c.remove_value-inner.ensures.others)
    (search rules)

pub read_section-returns-in-Object : goal.read_section-returns-in-Object
read_section-returns-in-Object t c =
    rw (section_split c.args.value c.in-Object.members (members_view c.remove_value-inner.new.members.entries) _
    c.in-Object.is c.remove_value-inner.ensures.value c.remove_value-inner.ensures.others)
    (search rules)
