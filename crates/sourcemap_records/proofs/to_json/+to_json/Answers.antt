use Rattle.std.proofs.Common.{◌≡◌, ◌∙◌, ap, sym, subst, map, option_map, codes, Option, Some, Ok, IfSome, Vec, Global}
use Rattle.std.specs.List.{AllByRecursion}
use Rattle.std.proofs.lemmas.Iterator.Adapters.{option_map_id}
use Rattle.serde_json.proofs.Views.{view-Object, view-Array}
use Rattle.serde_json.specs.Data.{Data, object, array}
use Rattle.serde_json.specs.View.{view, items_of, members_view}
use Rattle.sourcemap_records.specs.Field.{put_if}
use Rattle.sourcemap_records.specs.Jsontypes.{AreInRange, IsSectionInRange, written_one, written_fields, section}
use Rattle.sourcemap_records.proofs.JsontypesLemmas.{flat-roll, in_range-tree, written-tree}
use Rattle.sourcemap_records.specs.declared.jsontypes.RawSection.{RawSection}
use Rattle.sourcemap_records.specs.declared.jsontypes.RawSourceMap.{out-RawSourceMap}
use Rattle.sourcemap_records.proofs.to_json.+to_json.Goals as goal
use Rattle.sourcemap_records.proofs.to_json.+to_json.Goals.{write_map-in-Some+in_ok-write_section_list-in-Some, write_map-in-None}

pub write_map-returns-clause-value : goal.write_map-returns-clause-value
write_map-returns-clause-value t c =
    let of_list : Vec RawSection Global → Data = λ v. array (items_of (map written_one (map section v.items))) in
    let sections_value : option_map view c.match-take.sections_value
    ≡ option_map of_list (out-RawSourceMap c.args.map).sections =
    elim c.match-take.branch [
      | write_map-in-Some+in_ok-write_section_list-in-Some w ↦
          ap (option_map view) w.sections_value-is
          ∙ ap Some (view-Array w.in_ok-write_section_list-in-Some.field-0
          ∙ ap (λ ds. array (items_of ds)) w.in_ok-write_section_list-in-Some.ensures.ok)
          ∙ ap (option_map of_list) (sym w.in-Some.is ∙ c.take.ensures.value)
      | write_map-in-None w ↦
          ap (option_map view) w.sections_value-is ∙ ap (option_map of_list) (sym w.in-None.is ∙ c.take.ensures.value)
    ] in
    ap Ok (sym (view-Object c.put_field.new.members
    ∙ ap object (c.in_ok-put_field.ensures.ok
    ∙ ap (λ v. put_if (codes "sections") v (members_view c.in_ok-members.members.entries))
    (option_map_id _ ∙ sections_value)
    ∙ ap (put_if (codes "sections") _) (c.in_ok-members.ensures.ok ∙ ap written_fields (flat-roll _)))
    ∙ sym (written-tree c.args.map)))

pub write_map-returns-clause-in_range : goal.write_map-returns-clause-in_range
write_map-returns-clause-in_range t c =
    let AreAllInRange =
    λ (v : Option (Vec RawSection Global)). IfSome v (λ v. AllByRecursion IsSectionInRange (map section v.items)) in
    let sections : AreAllInRange (out-RawSourceMap c.args.map).sections =
    elim c.match-take.branch [
      | write_map-in-Some+in_ok-write_section_list-in-Some w ↦
          subst AreAllInRange (sym w.in-Some.is ∙ c.take.ensures.value)
          w.in_ok-write_section_list-in-Some.ensures.in_range
      | write_map-in-None w ↦ subst AreAllInRange (sym w.in-None.is ∙ c.take.ensures.value) tt
    ] in
    in_range-tree c.args.map (subst AreInRange
    (flat-roll (record (out-RawSourceMap c.args.map) { sections = c.take.new.self }))
    c.in_ok-members.ensures.in_range) sections
